use Rattle.std.proofs.Common.{◌≡◌, ℕ, List, length, get_or, ap, sym, subst, ◌∙◌}
use Rattle.std.proofs.lemmas.List.{get_or_read_under}
use Rattle.rule_index.specs.declared.homes.Told.{Told}
use Rattle.rule_index.specs.declared.homes.Told.TheVariants.{Nowhere, InPairs}
use Rattle.rule_index.specs.Homes.{is_in_pairs, are_listed_at, IsHomeIn}
use Rattle.rule_index.proofs.HomeCounts.{within, home-among}
use Rattle.rule_index.proofs.homes.Homes.home.Goals as goal

pub returns-in_default : goal.returns-in_default
returns-in_default c =
    λ entries had.
    home-among c.args.kins.now entries c.args.self.now c.args.file c.home.result (ap (are_listed_at c.args.self.now.0) (sym c.in_default.ensures))
    (subst (λ (homes : List Told × List (ℕ × ℕ)). IsHomeIn homes.1 c.args.file c.home.result) c.self.view_is c.home.ensures) had

pub returns-in-InPairs : goal.returns-in-InPairs
returns-in-InPairs c =
    let long : length c.args.kins.now ≡ length c.self.inside.places.items = sym (ap (λ (homes : List Told × List (ℕ × ℕ)). length homes.0) c.self.view_is ∙ c.requires) in
    let read : c.index.result.now ≡ get_or c.self.inside.places.items c.in-Some.at Nowhere =
    get_or_read_under c.self.inside.places.items c.in-Some.at (length c.args.kins.now) c.index.result.now Nowhere c.index.ensures (within c.args.kins.now c.args.file c.in-Some.at c.in-Some.ensures) long in
    let here : get_or c.self.inside.places.items c.in-Some.at Nowhere ≡ InPairs = sym read ∙ c.in-InPairs.is in
    let told : get_or c.args.self.now.0 c.in-Some.at Nowhere ≡ InPairs = ap (λ (homes : List Told × List (ℕ × ℕ)). get_or homes.0 c.in-Some.at Nowhere) (sym c.self.view_is) ∙ here in
    λ entries had.
    home-among c.args.kins.now entries c.args.self.now c.args.file c.home-in-InPairs.result (ap (are_listed_at c.args.self.now.0) (sym c.in-Some.ensures) ∙ ap is_in_pairs told)
    (subst (λ (homes : List Told × List (ℕ × ℕ)). IsHomeIn homes.1 c.args.file c.home-in-InPairs.result) c.self.view_is c.home-in-InPairs.ensures) had
