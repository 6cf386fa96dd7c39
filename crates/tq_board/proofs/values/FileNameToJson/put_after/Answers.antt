use Rattle.tq_board.proofs.{Gathered.as-quoted, ReadBack.{name-ascii, name-escaped, name-short}}
use Rattle.tq_board.proofs.values.FileNameToJson.put_after.Goals as goal

pub push_ascii-requires : goal.push_ascii-requires
push_ascii-requires g c =
    let name = c.as_bytes-bytes.ensures.name in
    rw c.as_bytes-bytes.ensures.value (record { ascii = name-ascii c.args.self.now name; few = name-short c.args.self.now name })

pub returns-clause-adds : goal.returns-clause-adds
returns-clause-adds g c =
    let plain = name-escaped c.args.self.now c.as_bytes-bytes.ensures.name in
    rw (as-quoted c.args.self.now plain) at (rw c.as_bytes-bytes.ensures.value at c.push_ascii.ensures)
