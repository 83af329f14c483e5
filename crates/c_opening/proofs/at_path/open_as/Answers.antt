use Rattle.std.proofs.Common.{◌≡◌, arith, rules}
use Rattle.c_opening.proofs.AtPath.{file_error_of_folder, file_error_of_path, folder_error_of_path}
use Rattle.c_opening.proofs.AtPath.{from_of_chain, from_of_file, from_of_info}
use Rattle.c_opening.proofs.AtPath.{graph_at, unopened_at}
use Rattle.c_opening.proofs.at_path.open_as.Goals as goal

pub returns-in-1-clause-opened : goal.returns-in-1-clause-opened
returns-in-1-clause-opened c =
    let is : c.args.what ≡ 1 = search rules in
    let from = c.open_file.ensures.from in
    graph_at c.args.what c.args.path.now c.open_file.result c.open_file.ensures.graph (λ _. from)
    (λ two. absurd (omega (arith, is, two))) (λ three. absurd (omega (arith, is, three)))
    (from_of_file c.args.path.now c.open_file.result from)

pub returns-in-1-clause-refused : goal.returns-in-1-clause-refused
returns-in-1-clause-refused c =
    let errors = c.open_file.ensures.errors in
    unopened_at c.args.what c.open_file.result (λ _. errors) (λ _. file_error_of_folder c.open_file.result errors)
    (file_error_of_path c.open_file.result errors) c.open_file.ensures.memory

pub returns-in-2-clause-opened : goal.returns-in-2-clause-opened
returns-in-2-clause-opened c =
    let is : c.args.what ≡ 2 = search rules in
    let from = c.open_chain.ensures.from in
    graph_at c.args.what c.args.path.now c.open_chain.result c.open_chain.ensures.graph (λ one. absurd (omega (arith, is, one)))
    (λ _. from) (λ three. absurd (omega (arith, is, three))) (from_of_chain c.args.path.now c.open_chain.result from)

pub returns-in-2-clause-refused : goal.returns-in-2-clause-refused
returns-in-2-clause-refused c =
    let is : c.args.what ≡ 2 = search rules in
    let errors = c.open_chain.ensures.errors in
    unopened_at c.args.what c.open_chain.result (λ one. absurd (omega (arith, is, one))) (λ _. errors)
    (folder_error_of_path c.open_chain.result errors) c.open_chain.ensures.memory

pub returns-in-3-clause-opened : goal.returns-in-3-clause-opened
returns-in-3-clause-opened c =
    let is : c.args.what ≡ 3 = search rules in
    let from = c.open_info.ensures.from in
    graph_at c.args.what c.args.path.now c.open_info.result c.open_info.ensures.graph (λ one. absurd (omega (arith, is, one)))
    (λ two. absurd (omega (arith, is, two))) (λ _. from) (from_of_info c.args.path.now c.open_info.result from)

pub returns-in-3-clause-refused : goal.returns-in-3-clause-refused
returns-in-3-clause-refused c =
    let is : c.args.what ≡ 3 = search rules in
    let errors = c.open_info.ensures.errors in
    unopened_at c.args.what c.open_info.result (λ one. absurd (omega (arith, is, one))) (λ _. errors)
    (folder_error_of_path c.open_info.result errors) c.open_info.ensures.memory
