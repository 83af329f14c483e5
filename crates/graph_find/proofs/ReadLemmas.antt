-- what the parts of a file that were read say of it
use Rattle.std.proofs.Common.{◌≡◌, ℕ, ◌+◌, ◌-◌, List, length, take, drop, slice_range, Option, Some}
use Rattle.std.proofs.Common.{None, IfSome, Bool, true, false, ◌==◌, ◌&&◌, if◌then◌else◌, Global, Vec, refl, sym, ap, subst}
use Rattle.std.proofs.Common.{◌∙◌, arith}
use Rattle.std.specs.Option.{IsSomeAnd}
use Rattle.std.proofs.Math.Seq.{take-append_seam}
use Rattle.std.proofs.lemmas.Bool.{eqb-true}
use Rattle.std.proofs.lemmas.List.{take-append-drop}
use Rattle.graph_folder.specs.Parts.{IsPartOf}
use Rattle.graph_folder.specs.declared.folder.Part.{Part}
use Rattle.graph_format.specs.Head.{BeginsWith}
use Rattle.graph_find.proofs.SeenLemmas.{as-some}
use Rattle.graph_find.specs.PartsRead.{BytesWereRead, HeadWasRead}
use Rattle.graph_find.specs.declared.head.Head.{Head}

taken : (n : ℕ) (xs : List ℕ) → take (length (take n xs)) xs ≡ take n xs
taken n xs = ap (take (length (take n xs))) (sym (take-append-drop n xs)) ∙ take-append_seam (take n xs) (drop n xs)

begins-part : (file : List ℕ) (n : ℕ) (part : Part) → IsPartOf file 0 n part → BeginsWith file part.bytes.items part.file_len
begins-part file n part is = record {
  size = sym is.1;
  starts = ap (λ (bytes : List ℕ). take (length bytes) file) is.0 ∙ taken n file ∙ sym is.0;
}

-- the head that is made of the first bytes
pub begins-head : (o : Option (List ℕ)) (n : ℕ) (part : Part) (answer : Option Head)
    → IfSome answer (λ head. (file : List ℕ) → BeginsWith file part.bytes.items part.file_len
    → BeginsWith file head.front.items head.len)
    → IsSomeAnd o (λ file. IsPartOf file 0 n part)
    → IfSome answer (λ head. IsSomeAnd o (λ file. BeginsWith file head.front.items head.len))
begins-head o n part None begins h = tt
begins-head o n part (Some head) begins h = as-some _ _ o (λ file is. begins file (begins-part file n part is)) h

-- and was read as its first bytes were
pub read-head : (gives_part : List ℕ → ℕ → Part → Type 0) (path : List ℕ) (part : Part) (answer : Option Head)
    → gives_part path 0 part
    → IfSome answer (λ head. (head.len ≡ part.file_len)
    × (take (length head.front.items) part.bytes.items ≡ head.front.items))
    → IfSome answer (HeadWasRead gives_part path)
read-head gives_part path part None given first = tt
read-head gives_part path part (Some head) given first = record {
  bytes = part.bytes.items;
  read = record { part = part; given = given; len = sym first.0; same = refl };
  first = first.1;
}

range-part : (o : Option (List ℕ)) (start len : ℕ) (part : Part) → IsSomeAnd o (λ file. IsPartOf file start len part)
    → IsSomeAnd o (λ file. slice_range file start (start + len) ≡ part.bytes.items)
range-part o start len part h = as-some _ _ o (λ (file : List ℕ) is.
    ap (λ (n : ℕ). take n (drop start file)) (back start len) ∙ sym is.0) h
  where
    back : (n m : ℕ) → n + m - n ≡ m
    back n m = omega arith

-- the bytes of the part, if they are answered
pub range-bytes : (o : Option (List ℕ)) (start len file_len : ℕ) (part : Part) (answer : Option (Vec ℕ Global))
    → answer ≡ (if (part.file_len == file_len) && (length part.bytes.items == len) then Some part.bytes else None)
    → IsSomeAnd o (λ file. IsPartOf file start len part)
    → IfSome answer (λ bytes. IsSomeAnd o (λ file. slice_range file start (start + len) ≡ bytes.items))
range-bytes o start len file_len part answer is h =
    subst (λ (a : Option (Vec ℕ Global)). IfSome a (λ bytes. IsSomeAnd o (λ file.
    slice_range file start (start + len) ≡ bytes.items)))
    (sym is) (by ((part.file_len == file_len) && (length part.bytes.items == len)))
  where
    by : (v : Bool) → IfSome (if v then Some part.bytes else None)
        (λ bytes. IsSomeAnd o (λ file. slice_range file start (start + len) ≡ bytes.items))
    by true = range-part o start len part h
    by false = tt

-- and they were read as the part was
pub range-read : (gives_part : List ℕ → ℕ → Part → Type 0) (path : List ℕ) (start len file_len : ℕ) (part : Part)
    (answer : Option (Vec ℕ Global))
    → answer ≡ (if (part.file_len == file_len) && (length part.bytes.items == len) then Some part.bytes else None)
    → gives_part path start part
    → IfSome answer (λ bytes. BytesWereRead gives_part path file_len start bytes.items)
range-read gives_part path start len file_len part answer is given =
    subst (λ (a : Option (Vec ℕ Global)). IfSome a (λ bytes. BytesWereRead gives_part path file_len start bytes.items)) (sym is)
    (by (part.file_len == file_len) (length part.bytes.items == len) refl)
  where
    by : (same long : Bool) → (part.file_len == file_len) ≡ same
        → IfSome (if same && long then Some part.bytes else None)
        (λ bytes. BytesWereRead gives_part path file_len start bytes.items)
    by true true equal = record { part = part; given = given; len = eqb-true part.file_len file_len equal; same = refl }
    by true false equal = tt
    by false long equal = tt
