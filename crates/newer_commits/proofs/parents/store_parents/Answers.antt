use Rattle.std.proofs.Common.{rules, ◌≡◌, ◌-◌, ◌<◌, ℕ, arith, drop, get_or, length, take}
use Rattle.std.specs.List.{AllByRecursion}
use Rattle.std.proofs.lemmas.List.Elements.{All-drop, All-take, recursion_from_All}
use Rattle.newer_commits.proofs.ListedLemmas.{parts_whole, stored_list}
use Rattle.newer_commits.proofs.parents.store_parents.Goals as goal

pub returns-in_ok-push_list-in-len2-up-clause-named : goal.returns-in_ok-push_list-in-len2-up-clause-named
returns-in_ok-push_list-in-len2-up-clause-named c =
    let ps = c.args.parents.now in
    let others = take ((length ps - 1) - 1) (drop 1 ps) in
    let small : AllByRecursion (λ q. q < 2147483648) others =
    recursion_from_All (λ (q : ℕ). q < 2147483648) others
    (All-take (λ (q : ℕ). q < 2147483648) ((length ps - 1) - 1) (drop 1 ps)
    (All-drop (λ (q : ℕ). q < 2147483648) 1 ps c.requires.small)) in
    let index : c.len-index.result ≡ length c.args.words.now.items = search rules in
    (stored_list c.push_list.new.words.items c.args.words.now.items others ps (get_or ps 0 0) (get_or ps (length ps - 1) 0)
    c.len-index.result c.field_of-in-len2-up.result c.field_of-in-len2-up.ensures c.in_ok-push_list-in-len2-up.ensures.ok index
    small (parts_whole ps (omega (arith, c.in-len2-up.len_at_least)))).0

pub returns-in_ok-push_list-in-len2-up-clause-whole : goal.returns-in_ok-push_list-in-len2-up-clause-whole
returns-in_ok-push_list-in-len2-up-clause-whole c =
    let ps = c.args.parents.now in
    let others = take ((length ps - 1) - 1) (drop 1 ps) in
    let small : AllByRecursion (λ q. q < 2147483648) others =
    recursion_from_All (λ (q : ℕ). q < 2147483648) others
    (All-take (λ (q : ℕ). q < 2147483648) ((length ps - 1) - 1) (drop 1 ps)
    (All-drop (λ (q : ℕ). q < 2147483648) 1 ps c.requires.small)) in
    let index : c.len-index.result ≡ length c.args.words.now.items = search rules in
    (stored_list c.push_list.new.words.items c.args.words.now.items others ps (get_or ps 0 0) (get_or ps (length ps - 1) 0)
    c.len-index.result c.field_of-in-len2-up.result c.field_of-in-len2-up.ensures c.in_ok-push_list-in-len2-up.ensures.ok index
    small (parts_whole ps (omega (arith, c.in-len2-up.len_at_least)))).1
