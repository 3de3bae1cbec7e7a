use Rattle.std.proofs.Common.{◌≡◌, ℕ, List, ◌∷◌, [], ◌++◌, get_or, ap, sym, subst, ◌∙◌}
use Rattle.std.proofs.Math.ListN.{set}
use Rattle.rule_index.specs.declared.homes.Told.TheVariants.{Nowhere, ByParent, InPairs}
use Rattle.rule_index.specs.Kins.{parent_at}
use Rattle.rule_index.specs.Homes.{HasHomes}
use Rattle.rule_index.proofs.HomeCounts.{homes-told-none, homes-told-one}
use Rattle.rule_index.proofs.homes.list.Goals as goal

pub returns-in-Nowhere-clause-same : goal.returns-in-Nowhere-clause-same
returns-in-Nowhere-clause-same c =
    let told : get_or c.args.places.now c.args.at Nowhere ≡ Nowhere = c.in-Nowhere.is in
    λ entries had. homes-told-none c.args.kins.now entries c.args.file c.args.places.now c.args.pairs.now.items c.args.at c.requires.place told had

pub returns-in_ok-push-in-ByParent-clause-same : goal.returns-in_ok-push-in-ByParent-clause-same
returns-in_ok-push-in-ByParent-clause-same c =
    let kins = c.args.kins.now in
    let pairs = c.args.pairs.now.items in
    let told : get_or c.args.places.now c.args.at Nowhere ≡ ByParent = c.in-ByParent.is in
    let pushed : c.push.new.self.items ≡ pairs ++ (c.args.file, parent_at kins c.args.at) ∷ [] = c.in_ok-push-in-ByParent.ensures.items ∙ ap (λ (n : ℕ). pairs ++ (c.args.file, n) ∷ []) c.parent_at.ensures in
    λ entries had.
    subst (λ (list : List (ℕ × ℕ)). HasHomes kins entries (set c.args.places.now c.args.at InPairs, list)) (sym pushed) (homes-told-one kins entries c.args.file c.args.places.now pairs c.args.at c.requires.place told had)
