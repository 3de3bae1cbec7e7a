use Rattle.std.proofs.Common.{rules, ◌≡◌, true, false, Vec, Global}
use Rattle.fs_name.specs.Normal.{are_hashed}
use Rattle.view_rules.specs.Facts.{Facts}
use Rattle.path_search.specs.Listing.{listing}
use Rattle.path_search.specs.declared.target.Target.{Target}
use Rattle.path_search.proofs.Viewed.{leads_hashed, leads_plain}
use Rattle.path_search.specs.Needs.{ListingNeeds}
use Rattle.path_search.proofs.Needed.{listing_mono, needs_hashed, needs_plain}
use Rattle.path_walk.proofs.listings.search.Goals as goal

pub returns-in-Ok-clause-leads : goal.returns-in-Ok-clause-leads
returns-in-Ok-clause-leads g c image told =
    let e : are_hashed c.args.volume.now.names ≡ true = search rules in
    leads_hashed image c.args.site.now c.args.volume.now c.args.view.now (λ (v : Vec Target Global). v.items) (λ (facts : Facts). listing facts c.args.path.now) c.in-Ok.onward e (c.in-Ok.ensures.leads image told)

pub returns-in-Ok-search_by-clause-leads : goal.returns-in-Ok-search_by-clause-leads
returns-in-Ok-search_by-clause-leads g c image told =
    let e : are_hashed c.args.volume.now.names ≡ false = search rules in
    leads_plain image c.args.site.now c.args.volume.now c.args.view.now (λ (v : Vec Target Global). v.items) (λ (facts : Facts). listing facts c.args.path.now) c.in-Ok-search_by.onward e (c.in-Ok-search_by.ensures.leads image told)

pub returns-in-Ok-clause-needs : goal.returns-in-Ok-clause-needs
returns-in-Ok-clause-needs g c image told =
    let e : are_hashed c.args.volume.now.names ≡ true = search rules in
    needs_hashed image c.args.site.now c.args.volume.now c.args.view.now (λ facts has_all. ListingNeeds facts has_all c.args.path.now) c.in-Ok.onward (λ facts one other f h. listing_mono facts c.args.path.now one other f h) e (c.in-Ok.ensures.needs image told)

pub returns-in-Ok-search_by-clause-needs : goal.returns-in-Ok-search_by-clause-needs
returns-in-Ok-search_by-clause-needs g c image told =
    let e : are_hashed c.args.volume.now.names ≡ false = search rules in
    needs_plain image c.args.site.now c.args.volume.now c.args.view.now (λ facts has_all. ListingNeeds facts has_all c.args.path.now) c.in-Ok-search_by.onward (λ facts one other f h. listing_mono facts c.args.path.now one other f h) e (c.in-Ok-search_by.ensures.needs image told)
