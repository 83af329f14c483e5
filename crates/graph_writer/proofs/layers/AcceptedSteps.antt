-- What is known of commits that nothing refuses.
use Rattle.std.proofs.Common.{◌≡◌, ◌==◌, ℕ, ◌+◌, ◌^◌, ◌<◌, ◌≤◌, true, false, List, length, slice_get, Option, Some, None}
use Rattle.std.proofs.Common.{refl, sym, ap, ◌∙◌}
use Rattle.std.specs.Option.{option_and_then}
use Rattle.std.proofs.lemmas.Bool.{not-false, ltb-false, leb-false}
use Rattle.std.proofs.lemmas.Option.{slice_get_within, none-some}
use Rattle.gix_chunk_core.specs.FirstFault.{◌when◌, ◌otherwise◌}
use Rattle.gix_chunk_core.proofs.FirstFaultLemmas.{first_below-none_at, otherwise-none, when-none}
use Rattle.graph_format.specs.Faults.{is_null}
use Rattle.graph_format.specs.Layer.{Layer}
use Rattle.graph_format.specs.RightLayer.{IsNull}
use Rattle.graph_format.specs.declared.TheConstants.{MAX_COMMITS}
use Rattle.gix_commitgraph.specs.Graph.{graph_ids, total}
use Rattle.graph_writer.specs.WriteRefusal.{own_refusal, own_refusal_at, below_at, kind_to_write, has_ids_of_kind}
use Rattle.graph_writer.specs.WriteRefusal.{new_layer_refusal}
use Rattle.graph_writer.specs.declared.commit.NewCommit.{NewCommit}
use Rattle.graph_writer.specs.declared.commit.WriteError.{WriteError}
use Rattle.graph_writer.specs.declared.commit.WriteError.TheVariants as error
use Rattle.graph_format.specs.Lookup.{scan}
use Rattle.graph_writer.proofs.positions.NewIdSteps.{below-from, id-at}
use Rattle.graph_writer.proofs.layers.RefusalSteps.{own_fault, twice_fault, below_fault, many_fault, parent_fault}
use Rattle.graph_writer.proofs.positions.NullSteps.{is_null-decides}

not-null : (id : List ℕ) → is_null id ≡ false → ¬ IsNull id
not-null id is null = let yes_it_is : is_null id ≡ true = (is_null-decides id).1 null in cc

-- A commit that is not refused for what it says itself.
pub record IsAccepted (layers : List Layer) (commits : List NewCommit) (commit : NewCommit) : Type 0 where
  pub kinds : has_ids_of_kind (kind_to_write layers commits) commit ≡ true
  pub id : ¬ IsNull commit.id
  pub tree : ¬ IsNull commit.tree
  pub time : commit.time < 2 ^ 34

module _ (layers : List Layer) (commits : List NewCommit) (none : new_layer_refusal layers commits ≡ None) where
  pub accepted : (i : ℕ) (commit : NewCommit) → slice_get commits i ≡ Some commit → IsAccepted layers commits commit
  unfolding new_layer_refusal
  accepted i commit here =
      let own = (otherwise-none _ _ none).0 in
      let at =
      sym (ap (option_and_then (own_refusal (kind_to_write layers commits) i)) here)
      ∙ first_below-none_at (own_refusal_at (kind_to_write layers commits) commits) i (length commits) own
      (slice_get_within commits i commit here) in
      let kinds = otherwise-none _ _ at in
      let ids = otherwise-none _ _ kinds.1 in
      let trees = otherwise-none _ _ ids.1 in
      record {
        kinds = not-false _ (when-none _ _ kinds.0);
        id = not-null commit.id (when-none _ _ ids.0);
        tree = not-null commit.tree (when-none _ _ trees.0);
        time = leb-false (2 ^ 34) commit.time (when-none _ _ trees.1);
      }

  pub none-below : (i : ℕ) → i < length commits → below_at (graph_ids layers) commits i ≡ None
  unfolding new_layer_refusal
  none-below i within =
      let twice = (otherwise-none _ _ none).1 in
      let below = (otherwise-none _ _ twice).1 in
      first_below-none_at (below_at (graph_ids layers) commits) i (length commits) (otherwise-none _ _ below).0 within

  -- no commit has the id of one below
  pub scanned-none : (i : ℕ) (commit : NewCommit) → slice_get commits i ≡ Some commit → scan (graph_ids layers) commit.id ≡ None
  scanned-none i commit here =
      by-cases (scan (graph_ids layers) commit.id) refl
    where
      by-cases : (answer : Option ℕ) → scan (graph_ids layers) commit.id ≡ answer → scan (graph_ids layers) commit.id ≡ None
      by-cases None is = is
      by-cases (Some p) is =
          let found = below-from (graph_ids layers) commits i commit.id (Some p) (id-at commits i commit here) is in
          let missing = none-below i (slice_get_within commits i commit here) in
          absurd (none-some _ (sym missing ∙ found))

  pub few : total layers + length commits ≤ MAX_COMMITS
  unfolding new_layer_refusal
  few =
      let twice = (otherwise-none (own_fault layers commits) _ none).1 in
      let below = (otherwise-none (twice_fault layers commits) _ twice).1 in
      let many = (otherwise-none (below_fault layers commits) _ below).1 in
      let last : Option WriteError = parent_fault layers commits otherwise (error.Nothing when length commits == 0) in
      ltb-false MAX_COMMITS (total layers + length commits)
      (when-none error.TooManyCommits _ (otherwise-none (many_fault layers commits) last many).0)
