use Rattle.std.proofs.Common.{◌≡◌, ◌∙◌, ◌++◌, List, ℕ, sym, subst}
use Rattle.gix_hash_core.specs.Digest.{digest_of}
use Rattle.gix_hash_core.specs.Kind.{id_len}
use Rattle.gix_hash_core.specs.declared.kind.Kind.{Kind}
use Rattle.graph_encoder.specs.Said.{IsFileOf}
use Rattle.graph_encoder.specs.Written.{planned_file}
use Rattle.std.proofs.Common.{◌^◌, ◌<◌, ap, arith}
use Rattle.graph_encoder.specs.Plan.{IsPlan}
use Rattle.graph_encoder.specs.Sizes.{sizes_of, total_size}
use Rattle.graph_encoder.specs.declared.plan.FilePlan.{FilePlan}
use Rattle.graph_encoder.specs.declared.sizes.ChunkSize.{ChunkSize}
use Rattle.graph_encoder.proofs.PlannedFile.{sizes-small, id-small}
use Rattle.graph_encoder.proofs.PlannedLayer.{planned_file-read, planned_file-added}
use Rattle.graph_encoder.proofs.builder.build_view.Given.{Over}
use Rattle.graph_encoder.proofs.builder.build_view.Goals as goal

-- the bytes
bytes : (g : Over) (c : goal.In_ok-push_id g)
    → c.push_id.new.file.items ≡ planned_file (g.P.PlanView.as_plan c.args.plan.now)
bytes g c =
    let plan = g.P.PlanView.as_plan c.args.plan.now in
    planned_file-added plan _ _ _ _ _ c.in_ok-push_body.ensures.body c.in_ok-file.ensures.items
    (c.in_ok-push_id.ensures ∙ ap (λ (id : List ℕ). c.push_body.new.file.items ++ id) c.as_oid.ensures)
    (c.digest-checksum.ensures ∙ ap (λ (kind : Kind). digest_of kind c.deref.result.now) c.kind-kind.ensures)
    c.deref.ensures.value

-- the chunks are not too large
small : (plan : FilePlan) (chunks : List ChunkSize) → IsPlan plan → chunks ≡ sizes_of plan → total_size chunks < 2 ^ 40
small plan chunks h e = omega (arith, ap total_size e, sizes-small plan h)

pub total_size-requires : goal.total_size-requires
total_size-requires g c =
    let plan = g.P.PlanView.as_plan c.args.plan.now in
    omega (arith, small plan c.chunk_sizes-chunks.result c.requires c.chunk_sizes-chunks.ensures)

pub overflow_add-body : goal.overflow_add-body
overflow_add-body g c =
    let plan = g.P.PlanView.as_plan c.args.plan.now in
    omega (
      arith,
      small plan c.chunk_sizes-chunks.result c.requires c.chunk_sizes-chunks.ensures,
      c.total_size.ensures,
      c.first_offset.ensures,
      c.chunk_count.type_inv,
    )

pub overflow_add-body-2 : goal.overflow_add-body-2
overflow_add-body-2 g c =
    let plan = g.P.PlanView.as_plan c.args.plan.now in
    omega (
      arith,
      small plan c.chunk_sizes-chunks.result c.requires c.chunk_sizes-chunks.ensures,
      c.total_size.ensures,
      c.first_offset.ensures,
      c.chunk_count.type_inv,
      c.len_in_bytes.ensures,
      ap id_len c.kind-kind.ensures,
      id-small plan.kind,
    )

pub returns-clause-layout : goal.returns-clause-layout
returns-clause-layout g c =
    let plan = g.P.PlanView.as_plan c.args.plan.now in
    bytes g c

pub returns-clause-layer : goal.returns-clause-layer
returns-clause-layer g c =
    let plan = g.P.PlanView.as_plan c.args.plan.now in
    λ path.
    let P : List ℕ → Type 0 = λ file. IsFileOf plan file path in
    subst P (sym (bytes g c)) (planned_file-read plan path c.requires c.in_ok-push_body.ensures.bytes)
