use Rattle.std.proofs.Common.{◌≡◌, ℕ, List, ◌∷◌, [], ◌++◌, true, ap, sym, subst, ◌∙◌}
use Rattle.rule_index.specs.Homes.{pair_of, are_listed, HasHomes}
use Rattle.rule_index.proofs.HomeCounts.{homes-first, homes-pushed}
use Rattle.rule_index.proofs.homes.add_at.Goals as goal

pub returns-then-is_first_in_parent : goal.returns-then-is_first_in_parent
returns-then-is_first_in_parent c =
    let first = c.is_first_in_parent.ensures c.if-is_first_in_parent.true in
    λ entries had. homes-first c.args.kins.now entries c.args.e.now c.args.places.now c.args.pairs.now.items c.args.at c.requires.counts c.requires.place first.0 first.1 had

pub returns : goal.returns
returns c =
    let kins = c.args.kins.now in
    let e = c.args.e.now in
    let places = c.list.new.places in
    let pairs = c.list.new.pairs.items in
    let listed : are_listed kins places e.what.file_id ≡ true = ap (λ (file : ℕ). are_listed kins places file) (sym c.file_id.ensures) ∙ c.in_ok-list.ensures.listed in
    let pushed : c.push.new.self.items ≡ pairs ++ pair_of e ∷ [] = c.in_ok-push.ensures.items ∙ ap (λ (pair : ℕ × ℕ). pairs ++ pair ∷ []) c.pair_of.ensures in
    λ entries had.
    subst (λ (list : List (ℕ × ℕ)). HasHomes kins (entries ++ e ∷ []) (places, list)) (sym pushed) (homes-pushed kins entries e places pairs c.requires.counts listed (c.in_ok-list.ensures.same entries had))
