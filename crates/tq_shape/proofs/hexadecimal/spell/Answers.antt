use Rattle.std.proofs.Common.{arith, slice_index}
use Rattle.hex.{specs.Hex.lower_digits, proofs.Pairs.{encode_step, encode_done}}
use Rattle.tq_shape.proofs.Digits.{pair_at}
use Rattle.tq_shape.proofs.hexadecimal.spell.Goals as goal

pub bytes-preserved : goal.bytes-preserved
bytes-preserved c =
    let pair = pair_at (slice_index c.args.bytes.now c.bytes.i) (c.type_inv.bytes c.bytes.i).fits in
    encode_step lower_digits c.args.bytes.now c.bytes.digits c.bytes.i _ _ (omega arith) (omega arith) pair.0 pair.1 c.bytes.invariant

pub returns : goal.returns
returns c = encode_done _ _ _ c.bytes.i (omega arith) (omega arith) c.bytes.invariant
