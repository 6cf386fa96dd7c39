-- Modes, locks that a vote lists, writes, citations and verdicts.
use Rattle.std.specs.{Prelude.{ℕ, List, Option, Some, None, option_map, cond, codes}, Str.bytes_eq}
use Rattle.serde_json.specs.{Data.Data, Find.get}
use Rattle.tq_store.specs.declared.write.Write.{Write}
use Rattle.tq_locks.specs.declared.mode.{Mode.Mode, Mode.TheVariants.{Shared, Exclusive}}
use Rattle.tq_asks.specs.declared.ask.{CitedVote.CitedVote, HeldLock.HeldLock, Verdict.Verdict}
use Rattle.tq_asks.specs.declared.ask.Verdict.TheVariants.{Abort, Commit}
use Rattle.tq_json.specs.declared.format.Format.{Format}
use Rattle.tq_json.specs.Member.{file_at, content_at, ◌>>=◌, text_at, number_at, items_at, each}

abbrev pub mode_of : List ℕ → Option Mode
mode_of text =
    cond (bytes_eq text (codes "shared")) (Some Shared)
    (cond (bytes_eq text (codes "exclusive")) (Some Exclusive) None)

abbrev pub mode_at : Data → Option Mode
mode_at value = do
  text ← text_at (codes "mode") value
  mode_of text

abbrev pub held_lock_from : Option (List ℕ) → Option Mode → Option ℕ → Option HeldLock
held_lock_from file mode since = do
  file ← file
  mode ← mode
  since ← since
  Some (record { file = file; mode = mode; since = since })

-- a lock that a vote lists: its file, its mode, and the number of the entry that it is held since
abbrev pub held_lock : Data → Option HeldLock
held_lock value = held_lock_from (file_at (codes "file") value) (mode_at value) (number_at (codes "since") value)

abbrev pub held_at : Data → Option (List HeldLock)
held_at value = do
  values ← items_at (codes "held") value
  each held_lock values

abbrev pub write_from : Option (List ℕ) → Option (List ℕ) → Option ℕ → Option Write
write_from content file version = do
  content ← content
  file ← file
  version ← version
  Some (record { file = file; version = version; content = content })

abbrev pub write : Format → Data → Option Write
write format value = write_from (content_at format (codes "content") value) (file_at (codes "file") value) (number_at (codes "version") value)

abbrev pub writes_at : Format → Data → Option (List Write)
writes_at format value = do
  values ← items_at (codes "writes") value
  each (write format) values

abbrev pub citation_from : Option ℕ → Option ℕ → Option CitedVote
citation_from number server = do
  number ← number
  server ← server
  Some (record { server = server; number = number })

-- a citation: an entry of a server by its number
abbrev pub citation : Data → Option CitedVote
citation value = citation_from (number_at (codes "number") value) (number_at (codes "server") value)

abbrev pub cited_at : Data → Option (List CitedVote)
cited_at value = do
  values ← items_at (codes "votes") value
  each citation values

-- the verdict that commits has the votes that it cites
abbrev pub verdict_by : Option (List ℕ) → Option (List CitedVote) → Option Verdict
verdict_by kind votes = do
  kind ← kind
  cond (bytes_eq kind (codes "abort")) (Some Abort)
      (cond (bytes_eq kind (codes "commit")) (option_map Commit votes) None)

abbrev pub verdict : Data → Option Verdict
verdict value = verdict_by (text_at (codes "is") value) (cited_at value)

abbrev pub verdict_at : Data → Option Verdict
verdict_at value = do
  inner ← get (codes "verdict") value
  verdict inner
