-- ends of bytes
use Rattle.std.proofs.Common.{◌≡◌, ℕ, ◌-◌, ◌≤◌, List, [], ◌∷◌, ◌++◌, length, length-append, take, drop, append_assoc, refl, sym}
use Rattle.std.proofs.Common.{ap, ◌∙◌, arith}
use Rattle.std.proofs.lemmas.List.{take-append-drop}
use Rattle.gix_hash_core.specs.declared.kind.Kind.{Kind}
use Rattle.tree_objects.specs.Tree.{TreeEntry, BeginsWithTreeEntry}
use Rattle.tree_changes.specs.Walk.{IsEnd}

regroup : (d n i x : List ℕ) → d ++ 32 ∷ (n ++ 0 ∷ (i ++ x)) ≡ (d ++ 32 ∷ (n ++ 0 ∷ i)) ++ x
regroup d n i x = sym (simp append_assoc)

pub entry_end : (kind : Kind) (bytes : List ℕ) (e : TreeEntry) (next : List ℕ) → BeginsWithTreeEntry kind bytes e next
    → IsEnd bytes next
entry_end kind bytes e next b =
    (b.digits ++ 32 ∷ (e.name ++ 0 ∷ e.id), b.whole ∙ regroup b.digits e.name e.id next)

pub end_of_end : (a b c : List ℕ) → IsEnd a b → IsEnd b c → IsEnd a c
end_of_end a b c h k = (h.0 ++ k.0, h.1 ∙ ap (λ t. h.0 ++ t) k.1 ∙ sym (append_assoc h.0 k.0 c))

pub itself : (a : List ℕ) → IsEnd a a
itself a = ([], refl)

drop_front : (front rest : List ℕ) → drop (length front) (front ++ rest) ≡ rest
drop_front [] rest = refl
drop_front (x ∷ front) rest = drop_front front rest

-- where an end begins
pub end_at : (bytes rest : List ℕ) → IsEnd bytes rest → drop (length bytes - length rest) bytes ≡ rest
end_at bytes rest h =
    let at : length bytes - length rest ≡ length h.0 = omega (arith, ap length h.1, length-append h.0 rest) in
    ap (λ n. drop n bytes) at ∙ ap (λ t. drop (length h.0) t) h.1 ∙ drop_front h.0 rest

pub end_short : (bytes rest : List ℕ) → IsEnd bytes rest → length rest ≤ length bytes
end_short bytes rest h = omega (arith, ap length h.1, length-append h.0 rest)

pub dropped_end : (n : ℕ) (bytes : List ℕ) → IsEnd bytes (drop n bytes)
dropped_end n bytes = (take n bytes, sym (take-append-drop n bytes))
