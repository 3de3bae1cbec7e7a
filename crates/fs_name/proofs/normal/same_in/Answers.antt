use Rattle.fs_name.proofs.NormalLemmas.{folded_same}
use Rattle.fs_name.proofs.normal.same_in.Goals as goal

pub returns-in-Folded-clause-value : goal.returns-in-Folded-clause-value
returns-in-Folded-clause-value c =
    folded_same c.canonical_caseless_match_str.result c.args.names c.args.a.now c.args.b.now c.in-Folded.is c.canonical_caseless_match_str.ensures.value
