use Rattle.std.proofs.Common.{◌≡◌, ℕ, List, ◌∷◌, [], ◌++◌, true, None, ap, sym, subst, ◌∙◌}
use Rattle.view_rules.specs.Facts.{does_count}
use Rattle.rule_index.specs.Kins.{kin_place}
use Rattle.rule_index.specs.Homes.{pair_of, are_listed_at, HasHomes}
use Rattle.rule_index.proofs.HomeCounts.{homes-pushed}
use Rattle.rule_index.proofs.Wholes.{astray-homeless}
use Rattle.rule_index.proofs.homes.add.Goals as goal

pub returns-clause-homes : goal.returns-clause-homes
returns-clause-homes c =
    let kins = c.args.kins.now in
    let e = c.args.e.now in
    let places = c.args.places.now in
    let pairs = c.args.pairs.now.items in
    let counted : does_count e ≡ true = cc in
    let nowhere : None ≡ kin_place kins e.what.file_id = c.in_default.ensures ∙ ap (λ (file : ℕ). kin_place kins file) c.file_id.ensures in
    let pushed : c.push.new.self.items ≡ pairs ++ pair_of e ∷ [] = c.in_ok-push.ensures.items ∙ ap (λ (pair : ℕ × ℕ). pairs ++ pair ∷ []) c.pair_of.ensures in
    λ entries had.
    subst (λ (list : List (ℕ × ℕ)). HasHomes kins (entries ++ e ∷ []) (places, list)) (sym pushed) (homes-pushed kins entries e places pairs counted (ap (are_listed_at places) (sym nowhere)) had)

pub returns-clause-whole : goal.returns-clause-whole
returns-clause-whole c =
    let counted : does_count c.args.e.now ≡ true = cc in
    let nowhere : None ≡ kin_place c.args.kins.now c.args.e.now.what.file_id = c.in_default.ensures ∙ ap (λ (file : ℕ). kin_place c.args.kins.now file) c.file_id.ensures in
    astray-homeless c.args.kins.now c.args.e.now counted nowhere
