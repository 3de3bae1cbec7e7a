use Rattle.std.proofs.Common.{◌≡◌, ◌+◌, ◌*◌, ◌≤◌, ◌∙◌, ℕ, List, true, sym, subst, length}
use Rattle.std.specs.List.{list_all, range_with_len}
use Rattle.obj_base.specs.declared.site.Site.{Site}
use Rattle.nx_ring.specs.Checkpoint.{site_of}
use Rattle.space_map.specs.Fields.{pool_bitmap_blocks_of, indexes_of}
use Rattle.space_pool.specs.Bits.{is_pool_count, is_pool_index}
use Rattle.space_pool.proofs.Indexes.{count-inside, shaped-from, none-then}
use Rattle.space_pool.proofs.bits.check.Goals as goal

pub wrong_index-requires-clause-inside : goal.wrong_index-requires-clause-inside
wrong_index-requires-clause-inside c =
    subst (λ (m : List ℕ). indexes_of m + 2 * pool_bitmap_blocks_of m ≤ length m) (sym c.manager-manager.ensures.all)
    (count-inside c.site-site.result c.args.space.now.manager (sym c.is_count.ensures ∙ c.if-not-is_count.false))

pub returns-in-None-clause-clear : goal.returns-in-None-clause-clear
returns-in-None-clause-clear c =
    let manager = c.args.space.now.manager in
    let right : is_pool_count c.site-site.result manager ≡ true = sym c.is_count.ensures ∙ c.if-not-is_count.false in
    let all = none-then c.in_ok-at.field-0 _ c.in-None.is c.in_ok-at.ensures.clear in
    shaped-from (site_of c.args.cp.now) manager (subst (λ (s : Site). is_pool_count s manager ≡ true) c.site-site.ensures right)
    (subst (λ (m : List ℕ). list_all (is_pool_index m) (range_with_len 0 (pool_bitmap_blocks_of m)) ≡ true) c.manager-manager.ensures.all all)
