use Rattle.std.proofs.Common.{◌∙◌, ℕ, ◌<◌, length, length-set, ap, arith}
use Rattle.std.proofs.lemmas.List.{length-replicate, get_or-replicate, take_all}
use Rattle.graph_layer.proofs.FirstByteLemmas.{ids_with, counted-more}
use Rattle.graph_layer.proofs.file.File.first_bytes.Goals as goal

pub loop-pos-init : goal.loop-pos-init
loop-pos-init c = record { size = length-replicate {A = ℕ} 256 0; counted = λ byte h. get_or-replicate 256 byte 0 0 h }

pub loop-pos-preserved : goal.loop-pos-preserved
loop-pos-preserved c =
    let room : c.first_byte.result < length c.loop-pos.counts = omega (arith, c.loop-pos.invariant.size, c.first_byte.type_inv) in
    record {
      size = length-set c.loop-pos.counts c.first_byte.result _ ∙ c.loop-pos.invariant.size;
      counted = λ byte h.
          counted-more c.loop-pos.counts c.args.self.now.ids c.loop-pos.pos c.first_byte.result byte _ c.id_at.ensures
          c.first_byte.ensures room (c.loop-pos.invariant.counted byte h);
    }

pub returns-clause-counts : goal.returns-clause-counts
returns-clause-counts c byte h =
    let ids = c.args.self.now.ids in
    c.loop-pos.invariant.counted byte h
    ∙ ap (ids_with byte) (take_all c.loop-pos.pos ids (omega (arith, c.loop-pos-test.false, c.num_commits-pos-end.ensures.ids)))
