use Rattle.std.proofs.Common.{◌≡◌, true, false}
use Rattle.gix_commitgraph.specs.Paths.{info_chain, info_file}
use Rattle.c_opening.specs.KnownPaths.{known_tree}
use Rattle.c_opening.specs.KnownOpening.{chain_answer, file_answer, info_answer, is_final}
use Rattle.c_opening.proofs.AtPath.{file_error_of_folder, info_of_chain, info_of_file}
use Rattle.c_opening.proofs.KnownAnswers.{chain_answers, final_answers}
use Rattle.c_opening.proofs.at_path.open_info.Goals as goal

pub returns-then-is_final-clause-answer : goal.returns-then-is_final-clause-answer
unfolding info_answer
returns-then-is_final-clause-answer c =
    let tree = known_tree c.args.known.now in
    let was = rw (c.as_str.ensures.value, c.in_ok-file.ensures) at c.open_file-answer.ensures.answer in
    let final : is_final c.args.known.now c.open_file-answer.result ≡ true = cc in
    final_answers c.args.known.now (file_answer tree (info_file c.args.path.now)) (chain_answer tree (info_chain c.args.path.now))
    c.open_file-answer.result final was

pub returns-then-is_final-clause-from : goal.returns-then-is_final-clause-from
returns-then-is_final-clause-from c =
    info_of_file c.args.path.now c.open_file-answer.result
    (rw (c.as_str.ensures.value, c.in_ok-file.ensures) at c.open_file-answer.ensures.from)

pub returns-then-is_final-clause-errors : goal.returns-then-is_final-clause-errors
returns-then-is_final-clause-errors c = file_error_of_folder c.open_file-answer.result c.open_file-answer.ensures.errors

pub returns-clause-answer : goal.returns-clause-answer
unfolding info_answer
returns-clause-answer c =
    let tree = known_tree c.args.known.now in
    let was = rw (c.as_str.ensures.value, c.in_ok-file.ensures) at c.open_file-answer.ensures.answer in
    let second = rw (c.as_str-2.ensures.value, c.in_ok-chain.ensures) at c.open_chain.ensures.answer in
    let final : is_final c.args.known.now c.open_file-answer.result ≡ false = cc in
    chain_answers c.args.known.now (file_answer tree (info_file c.args.path.now)) (chain_answer tree (info_chain c.args.path.now))
    c.open_file-answer.result c.open_chain.result final was second

pub returns-clause-from : goal.returns-clause-from
returns-clause-from c =
    info_of_chain c.args.path.now c.open_chain.result
    (rw (c.as_str-2.ensures.value, c.in_ok-chain.ensures) at c.open_chain.ensures.from)
