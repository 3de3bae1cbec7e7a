use Rattle.std.proofs.Common.{◌≡◌, ◌∙◌, true, false, ap, subst}
use Rattle.apfs_model.specs.Blocks.{block_of}
use Rattle.apfs_model.specs.Object.{cab_kind}
use Rattle.space_map.specs.Fields.{cibs_of, cab_cibs_of}
use Rattle.space_map.specs.Blocks.{address_at, is_info}
use Rattle.space_map.specs.Tests.{share, is_in_pool}
use Rattle.space_map.proofs.Infos.{cab-has-address, cab-is-named, cab-names, cab-test}
use Rattle.space_map.proofs.info.read_cab.Goals as goal

pub address-block-requires : goal.address-block-requires
address-block-requires g c = cab-has-address c.args.site.now c.args.manager.now c.args.index c.requires.shaped c.requires.low

pub returns-in-Err-clause-present : goal.returns-in-Err-clause-present
returns-in-Err-clause-present g c image told =
    c.in-Err.ensures.present image told (cab-names image c.args.site.now c.args.manager.now c.args.index c.address-block.result c.requires.shaped c.requires.low c.address-block.ensures)

pub returns-then-not-has_count-clause-present : goal.returns-then-not-has_count-clause-present
returns-then-not-has_count-clause-present g c image told =
    let site = c.args.site.now in
    let manager = c.args.manager.now in
    let count : c.share-count.result ≡ share (cibs_of manager) (cab_cibs_of manager) c.args.index = cc in
    let bytes : c.deref.result.now ≡ block_of site.block_size image (address_at manager c.args.index) = c.deref.ensures.value ∙ (c.in-Ok.ensures.found image told ∙ ap (block_of site.block_size image) c.address-block.ensures) in
    let tested = cab-test manager c.args.index c.share-count.result c.deref.result.now (block_of site.block_size image (address_at manager c.args.index)) c.has_count.result c.has_count.ensures count bytes in
    let wrong : c.has_count.result ≡ false = cc in
    (cab-is-named site manager c.args.index c.requires.shaped c.requires.low, subst (λ b. is_info image site cab_kind b ≡ true) c.address-block.ensures (c.in-Ok.ensures.sound image told), tested ∙ wrong)

pub returns-clause-right : goal.returns-clause-right
returns-clause-right g c image told =
    let site = c.args.site.now in
    let manager = c.args.manager.now in
    let count : c.share-count.result ≡ share (cibs_of manager) (cab_cibs_of manager) c.args.index = cc in
    let bytes : c.deref.result.now ≡ block_of site.block_size image (address_at manager c.args.index) = c.deref.ensures.value ∙ (c.in-Ok.ensures.found image told ∙ ap (block_of site.block_size image) c.address-block.ensures) in
    let tested = cab-test manager c.args.index c.share-count.result c.deref.result.now (block_of site.block_size image (address_at manager c.args.index)) c.has_count.result c.has_count.ensures count bytes in
    let right : c.has_count.result ≡ true = cc in
    record {
      placed = subst (λ b. is_in_pool site manager b ≡ true) c.address-block.ensures c.in-Ok.ensures.placed;
      sound = subst (λ b. is_info image site cab_kind b ≡ true) c.address-block.ensures (c.in-Ok.ensures.sound image told);
      right = tested ∙ right;
    }
