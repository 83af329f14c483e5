-- what the parts of a graph's files show
use Rattle.std.proofs.Common.{◌≡◌, ℕ, suc, zero, ◌+◌, ◌<◌, ◌≤◌, List, [], ◌∷◌, All, get_or, length, map, slice_index, take}
use Rattle.std.proofs.Common.{Option, Some, None}
use Rattle.std.proofs.Common.{refl, sym, ap, subst, ◌∙◌, arith}
use Rattle.std.specs.List.{AllZip, slice_get, sum_by}
use Rattle.std.specs.Option.{option_map_or}
use Rattle.std.specs.Vec.{with_item}
use Rattle.std.proofs.Math.ListN.{set}
use Rattle.std.proofs.lemmas.List.{take-map}
use Rattle.std.proofs.lemmas.List.Elements.{All-head, All-tail}
use Rattle.std.proofs.lemmas.List.Sums.{sum_by-cons, sum_by_more, sum_by_more_le}
use Rattle.std.proofs.lemmas.Option.{get_or_from_slice_get, same_Some, slice_get_read, slice_get_within}
use Rattle.std.proofs.lemmas.Slice.Zip.{AllZip-long}
use Rattle.graph_folder.specs.Tree.{Tree}
use Rattle.graph_format.specs.Layer.{Layer, record_at}
use Rattle.gix_commitgraph.specs.Graph.{IsGraph, graph_commits, graph_ids, start, total}
use Rattle.gix_commitgraph.specs.GraphLaw.{LiesIn}
use Rattle.gix_commitgraph.specs.GraphLookup.{FoundIn}
use Rattle.gix_commitgraph.proofs.lookup.GraphLookupLemmas.{IsMissed, found_in-counted, found_in-none, missed-more}
use Rattle.gix_commitgraph.proofs.layers.LayerListLemmas.{graph_commits-counted, graph_ids-counted, kind-first, size}
use Rattle.graph_format.specs.Lookup.{Found}
use Rattle.graph_format.specs.Parents.{extra_edge_of}
use Rattle.graph_format.specs.declared.parents.ExtraEdge.{ExtraEdge}
use Rattle.graph_find.specs.declared.chain.ChainLayer.{ChainLayer}
use Rattle.graph_parts.specs.Offsets.{StoresDate, date_in_layer}
use Rattle.graph_parts.specs.PartFiles.{commits_in, commits_in_all, edge_count, edge_words}
use Rattle.graph_parts.specs.Shown.{AreGraphParts, SeesMore, Shows, commits_of_part, commits_of_parts, edge_count_at, files_of}
use Rattle.graph_parts.specs.ShownLayer.{IsLayerParts, SeesMoreOfLayer, ShowsLayer}
use Rattle.graph_parts.specs.Spots.{IsSpotOf}
use Rattle.graph_parts.specs.Stored.{StoresAt, StoresCommit, StoresEdge}
use Rattle.graph_parts.specs.declared.layer.LayerParts.{LayerParts}
use Rattle.graph_parts.specs.declared.layer.StoredCommit.{StoredCommit}
use Rattle.graph_parts.specs.declared.parts.GraphParts.{GraphParts}
use Rattle.graph_parts.specs.declared.parts.Spot.{Spot}
use Rattle.graph_parts.proofs.LayerPartLemmas.{counted-ids, same-kind, shown-words}
use Rattle.graph_parts.proofs.ZipLemmas.{all-get, all-set, get-map, get-set, map-set, zip-get, zip-set, zip-unset}

-- the files have as many commits as the parts
pub count-files : (parts : List LayerParts) → commits_in_all (map (λ (part : LayerParts). part.file) parts)
    ≡ sum_by commits_of_part parts
count-files [] = refl
count-files (part ∷ parts) =
    omega (
      arith,
      sum_by-cons commits_in part.file (map (λ (p : LayerParts). p.file) parts),
      sum_by-cons commits_of_part part parts,
      count-files parts,
    )

pub get-file : (parts : List LayerParts) (i : ℕ) (part : LayerParts) → slice_get parts i ≡ Some part
    → slice_get (map (λ (p : LayerParts). p.file) parts) i ≡ Some part.file
get-file [] i part here = let clash : None ≡ Some part = here in cc
get-file (p ∷ ps) zero part here = ap (λ (q : LayerParts). Some q.file) (same_Some _ _ here)
get-file (p ∷ ps) (suc i) part here = get-file ps i part here

-- the kind of the ids of the lowest layer is that of all layers
pub kind-shown : (known : Option Tree) (parts : List LayerParts) (layers : List Layer) (lowest : LayerParts)
    → All IsLayerParts parts → slice_get parts 0 ≡ Some lowest → AllZip (ShowsLayer known) parts layers → IsGraph layers
    → All (λ (layer : Layer). layer.kind ≡ lowest.file.head.layout.kind) layers
kind-shown known [] layers lowest is here zip graph = let clash : None ≡ Some lowest = here in cc
kind-shown known (part ∷ parts) [] lowest is here zip graph = absurd zip
kind-shown known (part ∷ parts) (first ∷ rest) lowest is here zip graph =
    let one : part ≡ lowest = same_Some _ _ here in
    λ k d within.
    kind-first (first ∷ rest) first d k graph refl within
    ∙ sym (same-kind known part first (All-head IsLayerParts part parts is) zip.0)
    ∙ ap (λ (p : LayerParts). p.file.head.layout.kind) one

-- a position lies in the part at which those before it are counted
pub spot-here : (parts : GraphParts) (pos layer left : ℕ) (part : LayerParts)
    → pos ≡ sum_by commits_of_part (take layer parts.layers.items) + left
    → slice_get parts.layers.items layer ≡ Some part → left < commits_in part.file
    → IsSpotOf (files_of parts) pos (record { layer = layer; pos = left })
spot-here parts pos layer left part counted here within = record {
  file = part.file;
  there = get-file parts.layers.items layer part here;
  counted =
      let files : commits_in_all (take layer (files_of parts)) ≡ sum_by commits_of_part (take layer parts.layers.items) =
      ap commits_in_all (take-map (λ (p : LayerParts). p.file) layer parts.layers.items)
      ∙ count-files (take layer parts.layers.items) in
      omega (arith, files, counted);
  within = within;
}

module _ (known : Option Tree) where
  -- the layers have as many commits as the heads count
  counted : (i : ℕ) (parts : List LayerParts) (layers : List Layer) → AllZip (ShowsLayer known) parts layers
      → All IsLayerParts parts → commits_in_all (take i (map (λ (part : LayerParts). part.file) parts)) ≡ total (take i layers)
  counted zero parts layers zip is = refl
  counted (suc i) [] [] zip is = refl
  counted (suc i) [] (layer ∷ layers) zip is = absurd zip
  counted (suc i) (part ∷ parts) [] zip is = absurd zip
  counted (suc i) (part ∷ parts) (layer ∷ layers) zip is =
      let files = map (λ (p : LayerParts). p.file) parts in
      let one = counted-ids known part layer (All-head IsLayerParts part parts is) zip.0 in
      let rest = counted i parts layers zip.1 (All-tail IsLayerParts part parts is) in
      omega (arith, sum_by-cons commits_in part.file (take i files), sum_by-cons size layer (take i layers), one, rest)

  -- A position of a graph lies in a layer that the parts show.
  record LiesAt (parts : GraphParts) (layers : List Layer) (i : ℕ) (part : LayerParts) : Type 0 where
    layer : Layer
    there : slice_get layers i ≡ Some layer
    shows : ShowsLayer known part layer
    counted : commits_in_all (take i (files_of parts)) ≡ start layers i
    commits : commits_in part.file ≡ length layer.ids

  lies-at : (parts : GraphParts) (layers : List Layer) (i : ℕ) (part : LayerParts) → AreGraphParts parts
      → slice_get parts.layers.items i ≡ Some part → Shows known parts layers → LiesAt parts layers i part
  unfolding start
  lies-at parts layers i part is here shows =
      let at = zip-get (ShowsLayer known) parts.layers.items layers i part shows here in
      record {
        layer = at.0;
        there = at.1;
        shows = at.2;
        counted = counted i parts.layers.items layers shows is.each;
        commits = counted-ids known part at.0 (all-get IsLayerParts parts.layers.items i part is.each here) at.2;
      }

  -- the file of a part is the one where it stands
  pub same-file : (parts : GraphParts) (i : ℕ) (part : LayerParts) (file : ChainLayer)
      → slice_get parts.layers.items i ≡ Some part
      → slice_get (files_of parts) i ≡ Some file → part.file ≡ file
  same-file parts i part file here there =
      let at = get-map (λ (p : LayerParts). p.file) parts.layers.items i file there in
      ap (λ (p : LayerParts). p.file) (same_Some _ _ (sym here ∙ at.1)) ∙ at.2

  -- one layer sees more
  pub sees-set : (old new : GraphParts) (i : ℕ) (part more : LayerParts) → slice_get old.layers.items i ≡ Some part
      → new.layers.items ≡ set old.layers.items i more → SeesMoreOfLayer known part more → SeesMore known old new
  sees-set old new i part more here is sees = record {
    same = ap (map (λ (p : LayerParts). p.file)) is
        ∙ map-set (λ (p : LayerParts). p.file) old.layers.items i part more here sees.same;
    kept = λ layers shows.
        zip-unset (ShowsLayer known) old.layers.items layers i part more here sees.kept
        (subst (λ (ps : List LayerParts). AllZip (ShowsLayer known) ps layers) is shows);
    told = λ tree there layers shows.
        subst (λ (ps : List LayerParts). AllZip (ShowsLayer known) ps layers) (sym is)
        (zip-set (ShowsLayer known) old.layers.items layers i part more here (sees.told tree there) shows);
  }

-- the parts of one layer more are right
pub parts-set : (old new : GraphParts) (i : ℕ) (more : LayerParts) → AreGraphParts old
    → new.layers.items ≡ set old.layers.items i more → IsLayerParts more → files_of new ≡ files_of old → AreGraphParts new
parts-set old new i more parts is right same = record {
  each = subst (All IsLayerParts) (sym is) (all-set IsLayerParts old.layers.items i more parts.each right);
  few =
      let all : commits_in_all (files_of new) ≡ commits_in_all (files_of old) = ap commits_in_all same in
      omega (arith, all, count-files new.layers.items, count-files old.layers.items, parts.few);
}

-- More was read of the layer in which a position lies.
pub record ReadsAt (known : Option Tree) (old new : GraphParts) (l : ℕ) (part more : LayerParts) : Type 0 where
  pub right : AreGraphParts old
  pub here : slice_get old.layers.items l ≡ Some part
  pub is : new.layers.items ≡ set old.layers.items l more
  pub sees : SeesMoreOfLayer known part more
  pub kept : IsLayerParts more

module _ (known : Option Tree) (old new : GraphParts) (l : ℕ) (part more : LayerParts) (reads : ReadsAt known old new l part more)
  where
    pub new-sees : SeesMore known old new
    new-sees = sees-set known old new l part more reads.here reads.is reads.sees

    pub new-parts : AreGraphParts new
    new-parts = parts-set old new l more reads.right reads.is reads.kept new-sees.same

    there : slice_get new.layers.items l ≡ Some more
    there = rw reads.is (get-set old.layers.items l part more reads.here)

    pub new-edge : (index : ℕ) (edge : ExtraEdge)
        → ((layer : Layer) → ShowsLayer known more layer → edge ≡ extra_edge_of (slice_index (edge_words layer) index))
        → (layers : List Layer) → Shows known new layers → StoresEdge layers l index edge
    new-edge index edge said layers shows =
        let at = zip-get (ShowsLayer known) new.layers.items layers l more shows there in
        record { layer = at.0; there = at.1; says = said at.0 at.2 }

    module _ (pos left : ℕ) (lies : IsSpotOf (files_of old) pos (record { layer = l; pos = left })) where
      within : left < commits_in more.file
      within =
          let same : more.file ≡ lies.file = reads.sees.same ∙ same-file known old l part lies.file reads.here lies.there in
          rw same lies.within

      counted-old : pos ≡ commits_in_all (take l (files_of new)) + left
      counted-old = rw new-sees.same lies.counted

      pub new-stands : (layers : List Layer) → Shows known new layers
          → (layer : Layer) × (slice_get (graph_commits layers) pos ≡ Some (layer, left)) × ShowsLayer known more layer
      new-stands layers shows =
          let at = lies-at known new layers l more new-parts there shows in (
            at.layer,
            ap (slice_get (graph_commits layers)) counted-old
                ∙ graph_commits-counted layers l (commits_in_all (take l (files_of new))) left at.layer
                at.counted at.there (omega (arith, at.commits, within)),
            at.shows,
          )

      pub new-stores : (commit : StoredCommit)
          → ((layer : Layer) → ShowsLayer known more layer → StoresCommit (record_at layer left) commit)
          → (layers : List Layer) → Shows known new layers → StoresAt layers pos commit
      new-stores commit said layers shows =
          let at = new-stands layers shows in
          record { layer = at.0; pos = left; stands = at.1; stores = said at.0 at.2 }

      pub new-date : (date : ℕ) → ((layer : Layer) → ShowsLayer known more layer → date ≡ date_in_layer layer left)
          → (layers : List Layer) → Shows known new layers → StoresDate layers pos date
      new-date date said layers shows =
          let at = new-stands layers shows in
          record { layer = at.0; pos = left; stands = at.1; says = said at.0 at.2 }

      pub new-id : (id : List ℕ) → ((layer : Layer) → ShowsLayer known more layer → slice_get layer.ids left ≡ Some id)
          → (layers : List Layer) → Shows known new layers → slice_get (graph_ids layers) pos ≡ Some id
      new-id id said layers shows =
          let at = lies-at known new layers l more new-parts there shows in
          ap (slice_get (graph_ids layers)) counted-old
          ∙ graph_ids-counted layers l (commits_in_all (take l (files_of new))) left at.layer id
          at.counted at.there (said at.layer at.shows)

-- the part of an index was read
pub reads-at : (known : Option Tree) (old : GraphParts) (l : ℕ) (part more : LayerParts) → AreGraphParts old
    → l < length old.layers.items → part ≡ get_or old.layers.items l part → SeesMoreOfLayer known part more → IsLayerParts more
    → ReadsAt known old (record { layers = with_item old.layers l more }) l part more
reads-at known old l part more right within at sees kept = record {
  right = right;
  here = slice_get_read old.layers.items (length old.layers.items) l part refl within at;
  is = refl;
  sees = sees;
  kept = kept;
}

-- the part of a position
pub part-of : (parts : GraphParts) (pos l left : ℕ) → IsSpotOf (files_of parts) pos (record { layer = l; pos = left })
    → l < length parts.layers.items
part-of parts pos l left lies =
    let at = get-map (λ (p : LayerParts). p.file) parts.layers.items l lies.file lies.there in
    slice_get_within parts.layers.items l at.0 at.1

pub left-within : (parts : GraphParts) (pos l left : ℕ) (part : LayerParts) → slice_get parts.layers.items l ≡ Some part
    → IsSpotOf (files_of parts) pos (record { layer = l; pos = left }) → left < commits_in part.file
left-within parts pos l left part here lies = rw (same-file None parts l part lies.file here lies.there) lies.within

-- it was read
module _ (known : Option Tree) (old : GraphParts) (pos : ℕ) (spot : Spot) (part : LayerParts) (right : AreGraphParts old)
    (lies : IsSpotOf (files_of old) pos spot) (at : part ≡ get_or old.layers.items spot.layer part) where
  spot-within : spot.layer < length old.layers.items
  spot-within = part-of old pos spot.layer spot.pos lies

  spot-there : slice_get old.layers.items spot.layer ≡ Some part
  spot-there = slice_get_read old.layers.items (length old.layers.items) spot.layer part refl spot-within at

  pub spot-part : IsLayerParts part
  spot-part = all-get IsLayerParts old.layers.items spot.layer part right.each spot-there

  pub spot-left : spot.pos < commits_in part.file
  spot-left = left-within old pos spot.layer spot.pos part spot-there lies

  pub reads-spot : (more : LayerParts) → SeesMoreOfLayer known part more → IsLayerParts more
      → ReadsAt known old (record { layers = with_item old.layers spot.layer more }) spot.layer part more
  reads-spot more sees kept = reads-at known old spot.layer part more right spot-within at sees kept

-- the graph has as many commits as the parts
pub shows-total : (known : Option Tree) (parts : List LayerParts) (layers : List Layer) → AllZip (ShowsLayer known) parts layers
    → All IsLayerParts parts → sum_by commits_of_part parts ≡ total layers
shows-total known [] [] zip is = refl
shows-total known [] (layer ∷ layers) zip is = absurd zip
shows-total known (part ∷ parts) [] zip is = absurd zip
shows-total known (part ∷ parts) (layer ∷ layers) zip is =
    let one = counted-ids known part layer (All-head IsLayerParts part parts is) zip.0 in
    let rest = shows-total known parts layers zip.1 (All-tail IsLayerParts part parts is) in
    omega (arith, sum_by-cons commits_of_part part parts, sum_by-cons size layer layers, one, rest)

-- a position lies in the layer of its spot
pub spot-lies : (parts : GraphParts) (pos l left : ℕ) → AreGraphParts parts
    → IsSpotOf (files_of parts) pos (record { layer = l; pos = left }) → (known : Option Tree) (layers : List Layer)
    → Shows known parts layers → (layer : Layer) × LiesIn layers pos l layer
unfolding start
spot-lies parts pos l left right lies known layers shows =
    let file = get-map (λ (p : LayerParts). p.file) parts.layers.items l lies.file lies.there in
    let at = lies-at known parts layers l file.0 right file.1 shows in
    let more = counted known (l + 1) parts.layers.items layers shows right.each in
    let within = slice_get_within (files_of parts) l lies.file lies.there in
    let next = sum_by_more commits_in (files_of parts) l lies.file within in
    let one : commits_in (get_or (files_of parts) l lies.file) ≡ commits_in lies.file =
    ap commits_in (get_or_from_slice_get (files_of parts) l lies.file lies.file lies.there) in (
      at.layer,
      record {
        there = at.there;
        from = omega (arith, lies.counted, at.counted);
        below = omega (arith, lies.counted, lies.within, more, next, one);
      },
    )

-- the part of a file
pub edge-part : (parts : GraphParts) (l : ℕ) (file : ChainLayer) → slice_get (files_of parts) l ≡ Some file
    → l < length parts.layers.items
edge-part parts l file there =
    let at = get-map (λ (p : LayerParts). p.file) parts.layers.items l file there in
    slice_get_within parts.layers.items l at.0 at.1

-- a word of the index is one of a file
has-edge-of : (o : Option ChainLayer) (index : ℕ) → index < option_map_or edge_count o 0
    → (file : ChainLayer) × (o ≡ Some file) × (index < edge_count file)
has-edge-of None index within = absurd (omega (arith, within))
has-edge-of (Some file) index within = (file, refl, within)

pub has-edge : (parts : GraphParts) (l index : ℕ) → index < edge_count_at parts l
    → (file : ChainLayer) × (slice_get (files_of parts) l ≡ Some file) × (index < edge_count file)
has-edge parts l index within = has-edge-of (slice_get (files_of parts) l) index within

-- a layer that is shown has as many words as its file
words-of : (known : Option Tree) (parts : List LayerParts) (layers : List Layer) (l : ℕ) (layer : Layer)
    → All IsLayerParts parts → AllZip (ShowsLayer known) parts layers → slice_get layers l ≡ Some layer
    → length (edge_words layer) ≡ option_map_or edge_count (slice_get (map (λ (p : LayerParts). p.file) parts) l) 0
words-of known [] [] l layer is zip here = let clash : None ≡ Some layer = here in cc
words-of known [] (x ∷ xs) l layer is zip here = absurd zip
words-of known (part ∷ parts) [] l layer is zip here = absurd zip
words-of known (part ∷ parts) (x ∷ xs) zero layer is zip here =
    ap (λ (y : Layer). length (edge_words y)) (sym (same_Some _ _ here))
    ∙ shown-words known part x (All-head IsLayerParts part parts is) zip.0
words-of known (part ∷ parts) (x ∷ xs) (suc l) layer is zip here =
    words-of known parts xs l layer (All-tail IsLayerParts part parts is) zip.1 here

pub edges-long : (known : Option Tree) (parts : GraphParts) (layers : List Layer) (l : ℕ) (layer : Layer) → AreGraphParts parts
    → Shows known parts layers → slice_get layers l ≡ Some layer → length (edge_words layer) ≡ edge_count_at parts l
edges-long known parts layers l layer is shows here = words-of known parts.layers.items layers l layer is.each shows here

-- what is seen stays seen
pub sees-start : (known : Option Tree) (parts : GraphParts) → SeesMore known parts parts
sees-start known parts = record { same = refl; kept = λ layers shows. shows; told = λ tree is layers shows. shows }

pub sees-then : (known : Option Tree) (old new later : GraphParts) → SeesMore known old new → SeesMore known new later
    → SeesMore known old later
sees-then known old new later first second = record {
  same = second.same ∙ first.same;
  kept = λ layers shows. first.kept layers (second.kept layers shows);
  told = λ tree is layers shows. second.told tree is layers (first.told tree is layers shows);
}

-- the commits of the files before one, and its own, are among those of all
pub files-fit : (parts : GraphParts) (l : ℕ) (part : LayerParts) → slice_get parts.layers.items l ≡ Some part
    → commits_in_all (take l (files_of parts)) + commits_in part.file ≤ commits_of_parts parts
files-fit parts l part here =
    let there = get-file parts.layers.items l part here in
    let within = slice_get_within (files_of parts) l part.file there in
    let one : commits_in (get_or (files_of parts) l part.file) ≡ commits_in part.file =
    ap commits_in (get_or_from_slice_get (files_of parts) l part.file part.file there) in
    omega (arith, sum_by_more_le commits_in (files_of parts) l part.file within, one, count-files parts.layers.items)

pub files-more : (parts : GraphParts) (l : ℕ) (part : LayerParts) → slice_get parts.layers.items l ≡ Some part
    → commits_in_all (take (l + 1) (files_of parts)) ≡ commits_in_all (take l (files_of parts)) + commits_in part.file
files-more parts l part here =
    let there = get-file parts.layers.items l part here in
    let within = slice_get_within (files_of parts) l part.file there in
    let one : commits_in (get_or (files_of parts) l part.file) ≡ commits_in part.file =
    ap commits_in (get_or_from_slice_get (files_of parts) l part.file part.file there) in
    omega (arith, sum_by_more commits_in (files_of parts) l part.file within, one)

-- the id is found in the layer at a place, or in none up to it
module _ (known : Option Tree) (parts : GraphParts) (right : AreGraphParts parts) (l : ℕ) (part : LayerParts)
    (here : slice_get parts.layers.items l ≡ Some part) (id : List ℕ) where
  pub found-here : (pos start_of : ℕ) → start_of ≡ commits_in_all (take l (files_of parts))
      → ((layers : List Layer) → Shows known parts layers → IsMissed layers id l)
      → ((layer : Layer) → ShowsLayer known part layer → Found layer id (Some pos))
      → (layers : List Layer) → Shows known parts layers → FoundIn layers id (Some (start_of + pos))
  found-here pos start_of is missed found layers shows =
      let at = lies-at known parts layers l part right here shows in
      found_in-counted layers id l start_of pos at.layer (is ∙ at.counted) (missed layers shows) at.there
      (found at.layer at.shows)

  pub missed-here : ((layers : List Layer) → Shows known parts layers → IsMissed layers id l)
      → ((layer : Layer) → ShowsLayer known part layer → Found layer id None)
      → (layers : List Layer) → Shows known parts layers → IsMissed layers id (l + 1)
  missed-here missed found layers shows =
      let at = lies-at known parts layers l part right here shows in
      missed-more layers id l at.layer (missed layers shows) at.there (found at.layer at.shows)

pub missed-all : (known : Option Tree) (parts : GraphParts) (count : ℕ) (id : List ℕ) → length parts.layers.items ≤ count
    → ((layers : List Layer) → Shows known parts layers → IsMissed layers id count)
    → (layers : List Layer) → Shows known parts layers → FoundIn layers id None
missed-all known parts count id past missed layers shows =
    found_in-none layers id count (missed layers shows)
    (omega (arith, past, AllZip-long (ShowsLayer known) parts.layers.items layers shows))

-- they have as many commits as before
pub same-commits : (known : Option Tree) (old new : GraphParts) → SeesMore known old new
    → commits_of_parts new ≡ commits_of_parts old
same-commits known old new sees =
    sym (count-files new.layers.items) ∙ ap commits_in_all sees.same ∙ count-files old.layers.items
