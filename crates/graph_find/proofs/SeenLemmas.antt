-- a file that has the parts that were read, and is that of the tree where the tree is known
use Rattle.std.proofs.Common.{◌≡◌, ℕ, ◌+◌, ◌≤◌, List, length, slice_range, Option, Some, None}
use Rattle.std.proofs.Common.{refl, sym, ap, ◌∙◌, arith}
use Rattle.std.specs.Option.{ForSome, IsSomeAnd}
use Rattle.gix_chunk_core.specs.FirstBytes.{filled}
use Rattle.graph_folder.specs.Tree.{Tree, file_at}
use Rattle.graph_format.specs.Head.{BeginsWith}
use Rattle.graph_find.proofs.PatchLemmas.{patched, patched-len, patched-take, patched-before, patched-part}
use Rattle.graph_find.proofs.HeadLemmas.{begins-filled}

-- What the file at a path is where the tree is known.
pub record StandsAs (known : Option Tree) (path file : List ℕ) : Type 0 where
  pub stands : ForSome known (λ (tree : Tree). file_at tree path ≡ Some file)

both-of : {X : Type 0} (P Q : X → Type 0) (o : Option X) → IsSomeAnd o P → IsSomeAnd o Q → IsSomeAnd o (λ x. P x × Q x)
both-of P Q None h k = h
both-of P Q (Some x) h k = (h, k)

in-tree : (tree : Tree) (path : List ℕ) (Q : List ℕ → Type 0) (o : Option (List ℕ)) → file_at tree path ≡ o → IsSomeAnd o Q
    → (file : List ℕ) × StandsAs (Some tree) path file × Q file
in-tree tree path Q None is h = absurd h
in-tree tree path Q (Some file) is h = (
  file,
  record {
    stands = λ other same.
        let one : tree ≡ other = cc in
        ap (λ (t : Tree). file_at t path) (sym one) ∙ is;
  },
  h,
)

-- what is said of the tree's file, if the tree is known, is said of some file
pub some-file : (known : Option Tree) (path : List ℕ) (Q : List ℕ → Type 0) (other : List ℕ)
    → ForSome known (λ (tree : Tree). IsSomeAnd (file_at tree path) Q) → Q other
    → (file : List ℕ) × StandsAs known path file × Q file
some-file None path Q other seen h = (other, record { stands = λ tree is. absurd (let clash : None ≡ Some tree = is in cc) }, h)
some-file (Some tree) path Q other seen h = in-tree tree path Q (file_at tree path) refl (seen tree refl)

-- the first bytes
pub seen-front : (known : Option Tree) (path front : List ℕ) (len : ℕ) → length front ≤ len
    → ForSome known (λ (tree : Tree). IsSomeAnd (file_at tree path) (λ file. BeginsWith file front len))
    → (file : List ℕ) × StandsAs known path file × BeginsWith file front len
seen-front known path front len fits seen =
    some-file known path (λ file. BeginsWith file front len) (filled front len) seen (begins-filled front len fits)

begins-patched : (file front : List ℕ) (len start : ℕ) (bytes : List ℕ) → BeginsWith file front len → length front ≤ start
    → start + length bytes ≤ len → BeginsWith (patched file start bytes) front len
begins-patched file front len start bytes begins after fits = record {
  size = patched-len file start bytes (omega (arith, begins.size)) ∙ begins.size;
  starts = patched-take file start bytes (length front) (omega (arith, begins.size)) after ∙ begins.starts;
}

-- A file begins so, and has these bytes at a place.
pub record HasPart (front : List ℕ) (len start : ℕ) (bytes file : List ℕ) : Type 0 where
  pub begins : BeginsWith file front len
  pub has : slice_range file start (start + length bytes) ≡ bytes

-- and these at a later one
pub record HasParts (front : List ℕ) (len start : ℕ) (bytes : List ℕ) (later : ℕ) (more file : List ℕ) : Type 0 where
  pub first : HasPart front len start bytes file
  pub has : slice_range file later (later + length more) ≡ more

has-part : (front : List ℕ) (len start : ℕ) (bytes : List ℕ) → length front ≤ start → start + length bytes ≤ len
    → HasPart front len start bytes (patched (filled front len) start bytes)
has-part front len start bytes after fits =
    let begins = begins-filled front len (omega arith) in
    record {
      begins = begins-patched (filled front len) front len start bytes begins after fits;
      has = patched-part (filled front len) start bytes (omega (arith, begins.size));
    }

has-parts : (front : List ℕ) (len start : ℕ) (bytes : List ℕ) (later : ℕ) (more : List ℕ) → length front ≤ start
    → start + length bytes ≤ later → later + length more ≤ len
    → HasParts front len start bytes later more (patched (patched (filled front len) start bytes) later more)
has-parts front len start bytes later more after order fits =
    let one = has-part front len start bytes after (omega arith) in
    let file = patched (filled front len) start bytes in
    let room : later + length more ≤ length file = omega (arith, one.begins.size) in
    record {
      first = record {
        begins = begins-patched file front len later more one.begins (omega arith) fits;
        has = patched-before file later more start (start + length bytes) room order ∙ one.has;
      };
      has = patched-part file later more room;
    }

seen-both : (known : Option Tree) (path : List ℕ) (P Q : List ℕ → Type 0)
    → ForSome known (λ (tree : Tree). IsSomeAnd (file_at tree path) P)
    → ForSome known (λ (tree : Tree). IsSomeAnd (file_at tree path) Q)
    → ForSome known (λ (tree : Tree). IsSomeAnd (file_at tree path) (λ file. P file × Q file))
seen-both known path P Q p q tree is = both-of P Q (file_at tree path) (p tree is) (q tree is)

pub as-some : {X : Type 0} (P Q : X → Type 0) (o : Option X) → ((x : X) → P x → Q x) → IsSomeAnd o P → IsSomeAnd o Q
as-some P Q None f h = h
as-some P Q (Some x) f h = f x h

pub seen-part : (known : Option Tree) (path front : List ℕ) (len start : ℕ) (bytes : List ℕ) → length front ≤ start
    → start + length bytes ≤ len
    → ForSome known (λ (tree : Tree). IsSomeAnd (file_at tree path) (λ file. BeginsWith file front len))
    → ForSome known (λ (tree : Tree). IsSomeAnd (file_at tree path)
    (λ file. slice_range file start (start + length bytes) ≡ bytes))
    → (file : List ℕ) × StandsAs known path file × HasPart front len start bytes file
seen-part known path front len start bytes after fits front_seen part_seen =
    some-file known path (HasPart front len start bytes) (patched (filled front len) start bytes)
    (λ tree is. as-some _ (HasPart front len start bytes) (file_at tree path)
    (λ file h. record { begins = h.0; has = h.1 })
    (seen-both known path _ _ front_seen part_seen tree is))
    (has-part front len start bytes after fits)

pub seen-parts : (known : Option Tree) (path front : List ℕ) (len start : ℕ) (bytes : List ℕ) (later : ℕ) (more : List ℕ)
    → length front ≤ start → start + length bytes ≤ later → later + length more ≤ len
    → ForSome known (λ (tree : Tree). IsSomeAnd (file_at tree path) (λ file. BeginsWith file front len))
    → ForSome known (λ (tree : Tree). IsSomeAnd (file_at tree path)
    (λ file. slice_range file start (start + length bytes) ≡ bytes))
    → ForSome known (λ (tree : Tree). IsSomeAnd (file_at tree path) (λ file. slice_range file later (later + length more) ≡ more))
    → (file : List ℕ) × StandsAs known path file × HasParts front len start bytes later more file
seen-parts known path front len start bytes later more after order fits front_seen part_seen more_seen =
    some-file known path (HasParts front len start bytes later more) (patched (patched (filled front len) start bytes) later more)
    (λ tree is. as-some _ (HasParts front len start bytes later more) (file_at tree path)
    (λ file h. record { first = record { begins = h.0.0; has = h.0.1 }; has = h.1 })
    (seen-both known path _ _ (seen-both known path _ _ front_seen part_seen) more_seen tree is))
    (has-parts front len start bytes later more after order fits)
