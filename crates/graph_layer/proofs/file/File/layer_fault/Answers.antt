use Rattle.std.proofs.Common.{◌≡◌, ◌≢◌, ◌∙◌, List, ℕ, Bool, true, false, Some, Result, Ok, Err, MatchResult, bytes_eq, refl, sym}
use Rattle.std.proofs.Common.{rules}
use Rattle.std.specs.Prelude.{option_map}
use Rattle.std.specs.Result.{is_err}
use Rattle.std.proofs.lemmas.Slice.Eq.{bytes_eq-Decides}
use Rattle.gix_chunk_core.specs.FirstFault.{first_below}
use Rattle.gix_hash_core.specs.Digest.{digest_of}
use Rattle.graph_format.specs.Layer.{Layer}
use Rattle.graph_format.specs.NameRule.{is_named_right}
use Rattle.graph_format.specs.Faults.{wrong_fan, layer_fault}
use Rattle.graph_format.specs.declared.fault.LayerFault.TheVariants.{Checksum, FileName, Fan}
use Rattle.graph_layer.proofs.file.File.layer_fault.Goals as goal

-- whether an answer is an error says which of two facts holds
held : {T E : Type 0} (r : Result T E) (P Q : Type 0) → MatchResult r (λ _. P) (λ _. Q) → is_err r ≡ false → P
held (Ok x) P Q h e = h
held (Err x) P Q h e = cc

failed : {T E : Type 0} (r : Result T E) (P Q : Type 0) → MatchResult r (λ _. P) (λ _. Q) → is_err r ≡ true → Q
failed (Ok x) P Q h e = cc
failed (Err x) P Q h e = h

differ : (a b : List ℕ) (test : Bool) → bytes_eq a b ≡ test → a ≢ b → test ≡ false
differ a b true h apart = absurd (apart ((bytes_eq-Decides a b).0 h))
differ a b false h apart = refl

wrong-checksum : (layer : Layer) → layer.checksum ≢ digest_of layer.kind layer.body → layer_fault layer ≡ Some Checksum
unfolding layer_fault
wrong-checksum layer h = rw (differ layer.checksum (digest_of layer.kind layer.body) _ refl h) refl

wrong-name : (layer : Layer) → layer.checksum ≡ digest_of layer.kind layer.body → is_named_right layer.path layer.checksum ≡ false
    → layer_fault layer ≡ Some FileName
unfolding layer_fault
wrong-name layer h e = rw ((bytes_eq-Decides layer.checksum (digest_of layer.kind layer.body)).1 h, e) refl

fan-fault : (layer : Layer) → layer.checksum ≡ digest_of layer.kind layer.body → is_named_right layer.path layer.checksum ≡ true
    → layer_fault layer ≡ first_below (wrong_fan layer) 256
unfolding layer_fault
fan-fault layer h e = rw ((bytes_eq-Decides layer.checksum (digest_of layer.kind layer.body)).1 h, e) refl

pub returns-then-is_err : goal.returns-then-is_err
returns-then-is_err c =
    sym (wrong-checksum c.args.self.now
    (failed c.verify_checksum.result _ _ c.verify_checksum.ensures.trailer (sym c.if-is_err.ensures.value)))

pub returns-then-not-is_named_right : goal.returns-then-not-is_named_right
returns-then-not-is_named_right c =
    sym (wrong-name c.args.self.now
    (held c.verify_checksum.result _ _ c.verify_checksum.ensures.trailer (sym c.if-is_err.ensures.value))
    (sym c.if-not-is_named_right.ensures))

pub returns : goal.returns
returns c =
    let layer = c.args.self.now in
    let mapped : c.map.result ≡ option_map (λ byte. Fan byte) c.wrong_byte.result = search rules in
    mapped
    ∙ c.wrong_byte.ensures
    ∙ sym (fan-fault layer (held c.verify_checksum.result _ _ c.verify_checksum.ensures.trailer (sym c.if-is_err.ensures.value))
    (sym c.if-not-is_named_right.ensures))
