use Rattle.commit_objects.proofs.TimeLemmas.{first_is, first_within}
use Rattle.commit_objects.proofs.time.place_of.Goals as goal

pub returns-clause-value : goal.returns-clause-value
returns-clause-value c = first_is c.args.value c.args.bytes.now c.memchr.result c.memchr.ensures

pub returns-clause-inside : goal.returns-clause-inside
returns-clause-inside c = first_within c.args.value c.args.bytes.now c.memchr.result c.memchr.ensures
