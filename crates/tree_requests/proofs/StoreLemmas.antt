-- Trees that are kept, with more bytes and with one more.
use Rattle.std.proofs.Common.{◌≡◌, ◌++◌, ℕ, List, [], Option, Some, length, sym, ap, ◌∙◌, subst, arith}
use Rattle.std.specs.Prelude.{slice_range, Result, Ok, Err, OnOk, OnErr}
use Rattle.std.specs.BTreeMap as tree
use Rattle.std.specs.Ordering.{nat_cmp}
use Rattle.std.specs.Cmp.Lexicographic.{slice_cmp}
use Rattle.std.proofs.lemmas.List.{length-append}
use Rattle.gix_hash_core.specs.declared.kind.Kind.{Kind}
use Rattle.tree_requests.specs.TakenTree.{IsKeptTree}
use Rattle.tree_requests.specs.StoredTrees.{AreStored, IsStoredAt}
use Rattle.tree_requests.specs.declared.store.Span.{Span}
use Rattle.tree_requests.proofs.RangeLemmas.{range_added, range_kept}
use Rattle.tree_requests.proofs.MapLemmas.{each_none, each_same, each_updated, each_weaker}

module _ (kind : Kind) (stream : Option (List ℕ)) (bytes : List ℕ) (spans : tree.BTreeMap (List ℕ) Span) where
  -- none is kept
  pub stored_none : spans.entries ≡ [] → AreStored kind stream bytes spans
  stored_none none = each_none spans spans (IsStoredAt kind stream bytes) none

  module _ (more : List ℕ) where
    grown : (id : List ℕ) (span : Span) → IsStoredAt kind stream bytes id span → IsStoredAt kind stream (bytes ++ more) id span
    grown id span at = record {
      order = at.order;
      within = omega (arith, at.within, length-append bytes more);
      kept = subst (IsKeptTree kind stream id) (sym (range_kept bytes more span.start span.end at.order at.within)) at.kept;
    }

    -- more bytes stand behind all
    pub stored_grown : AreStored kind stream bytes spans → AreStored kind stream (bytes ++ more) spans
    stored_grown stored id =
        each_weaker (tree.get (slice_cmp nat_cmp) spans id) (IsStoredAt kind stream bytes id)
        (IsStoredAt kind stream (bytes ++ more) id) (grown id) (stored id)

    last : (id : List ℕ) (span : Span) → span.start ≡ length bytes → span.end ≡ length (bytes ++ more)
        → IsKeptTree kind stream id more → IsStoredAt kind stream (bytes ++ more) id span
    last id span start end kept =
        let all : slice_range (bytes ++ more) span.start span.end ≡ more =
        ap (λ (s : ℕ). slice_range (bytes ++ more) s span.end) start
        ∙ ap (λ (e : ℕ). slice_range (bytes ++ more) (length bytes) e) end
        ∙ range_added bytes more in record {
          order = omega (arith, start, end, length-append bytes more);
          within = omega (arith, end);
          kept = subst (IsKeptTree kind stream id) (sym all) kept;
        }

    -- one more is kept
    pub stored_added : (after : tree.BTreeMap (List ℕ) Span) (id : List ℕ) (span : Span) → span.start ≡ length bytes
        → span.end ≡ length (bytes ++ more) → AreStored kind stream bytes spans → IsKeptTree kind stream id more
        → tree.Updates (slice_cmp nat_cmp) spans after id (Some span) → AreStored kind stream (bytes ++ more) after
    stored_added after id span start end stored kept updates =
        each_updated spans after (IsStoredAt kind stream (bytes ++ more)) id span (stored_grown stored)
        (last id span start end kept) updates

    -- one more is kept, if there was memory for it
    pub stored_if_added : {T E : Type 0} (result : Result T E) (after : tree.BTreeMap (List ℕ) Span) (id : List ℕ) (span : Span)
        → span.start ≡ length bytes → span.end ≡ length (bytes ++ more) → AreStored kind stream bytes spans
        → IsKeptTree kind stream id more → OnOk result (tree.Updates (slice_cmp nat_cmp) spans after id (Some span))
        → OnErr result (after.entries ≡ spans.entries) → AreStored kind stream (bytes ++ more) after
    stored_if_added (Ok x) after id span start end stored kept ok err = stored_added after id span start end stored kept ok
    stored_if_added (Err e) after id span start end stored kept ok err =
        each_same spans after (IsStoredAt kind stream (bytes ++ more)) (stored_grown stored) err
