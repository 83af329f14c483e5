use Rattle.std.proofs.Common.{◌*◌, arith, ◌∙◌}
use Rattle.std.proofs.lemmas.List.{length-set}
use Rattle.hex.proofs.HexLemmas.{decode_of-even}
use Rattle.hex.proofs.Pairs.{decode_step, decode_done}
use Rattle.commit_objects.proofs.hex_id.decoded.Goals as goal

pub loop-i-preserved : goal.loop-i-preserved
loop-i-preserved g c = record {
  room = length-set _ _ _ ∙ c.loop-i.invariant.room;
  so_far = decode_step _ _ c.loop-i.i _ (omega arith) (omega (arith, c.loop-i.invariant.room))
      (c.byte_of.ensures (2 * c.loop-i.i)) c.loop-i.invariant.so_far;
}

pub returns : goal.returns
returns g c =
    decode_of-even c.args.digits.now (omega (arith, c.requires.sized))
    ∙ decode_done _ c.loop-i.bytes c.loop-i.i (omega (arith, c.loop-i.invariant.room)) (omega (arith, c.requires.sized))
    c.loop-i.invariant.so_far
