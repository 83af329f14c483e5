-- Answers of steps that may refuse, one after another.
use Rattle.std.specs.Prelude.{◌≡◌, ℕ, Bool, true, false, List, [], ◌∷◌, ⊤}
use Rattle.std.specs.declared.result.Result.{Result}
use Rattle.std.specs.declared.result.Result.TheVariants.{Ok, Err}
use Rattle.graph_folder.specs.Failures.{one_more}
use Rattle.graph_layer.specs.declared.opening.error.OpenError.{OpenError}
use Rattle.graph_layer.specs.declared.opening.error.OpenError.TheVariants.{Device, OutOfMemory}

-- the next step, at the value of the one before
abbrev pub and_then : {A B E : Type 0} → Result A E → (A → Result B E) → Result B E
and_then (Ok x) f = f x
and_then (Err e) f = Err e

abbrev pub result_map : {A B E : Type 0} → (A → B) → Result A E → Result B E
result_map f (Ok x) = Ok (f x)
result_map f (Err e) = Err e

abbrev pub result_map_err : {A D E : Type 0} → (D → E) → Result A D → Result A E
result_map_err f (Ok x) = Ok x
result_map_err f (Err e) = Err (f e)

-- the values of all answers in order, or the first refusal
abbrev pub all_values : {A E : Type 0} → List (Result A E) → Result (List A) E
all_values [] = Ok []
all_values (answer ∷ answers) = and_then answer (λ x. result_map (λ xs. x ∷ xs) (all_values answers))

-- an answer is the one expected, unless a device failed or memory ran out
abbrev pub IsAsExpected : {A : Type 0} → Result A OpenError → Result A OpenError → Type 0
IsAsExpected (Err Device) expected = ⊤
IsAsExpected (Err OutOfMemory) expected = ⊤
IsAsExpected answer expected = answer ≡ expected

-- the count of device failures after an opener that stops at the first: it rises where that is the answer
abbrev pub failures_after_opening : {A : Type 0} → Result A OpenError → ℕ → ℕ
failures_after_opening (Err Device) count = one_more count
failures_after_opening _ count = count

-- a graph, or out of memory: nothing else is tried
abbrev pub is_settled : {A : Type 0} → Result A OpenError → Bool
is_settled (Ok x) = true
is_settled (Err OutOfMemory) = true
is_settled (Err _) = false
