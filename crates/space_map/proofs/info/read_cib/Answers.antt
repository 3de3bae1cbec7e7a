use Rattle.std.proofs.Common.{◌≡◌, ◌∙◌, true, false, ap, subst}
use Rattle.apfs_model.specs.Blocks.{block_of}
use Rattle.apfs_model.specs.Object.{cib_kind}
use Rattle.space_map.specs.Fields.{chunks_of, cib_chunks_of}
use Rattle.space_map.specs.Blocks.{cib_block, is_info}
use Rattle.space_map.specs.Tests.{share, is_in_pool}
use Rattle.space_map.proofs.Infos.{cib-test}
use Rattle.space_map.proofs.info.read_cib.Goals as goal

pub returns-then-not-has_count-clause-present : goal.returns-then-not-has_count-clause-present
returns-then-not-has_count-clause-present g c image told named =
    let site = c.args.site.now in
    let manager = c.args.manager.now in
    let at = cib_block site.block_size image manager c.args.index in
    let count : c.share-count.result ≡ share (chunks_of manager) (cib_chunks_of manager) c.args.index = cc in
    let bytes : c.deref.result.now ≡ block_of site.block_size image at = c.deref.ensures.value ∙ (c.in-Ok.ensures.found image told ∙ ap (block_of site.block_size image) named.same) in
    let tested = cib-test manager c.args.index c.share-count.result c.deref.result.now (block_of site.block_size image at) c.has_count.result c.has_count.ensures count bytes in
    let wrong : c.has_count.result ≡ false = cc in
    (named.named, subst (λ b. is_info image site cib_kind b ≡ true) named.same (c.in-Ok.ensures.sound image told), tested ∙ wrong)

pub returns-clause-right : goal.returns-clause-right
returns-clause-right g c image told named =
    let site = c.args.site.now in
    let manager = c.args.manager.now in
    let at = cib_block site.block_size image manager c.args.index in
    let count : c.share-count.result ≡ share (chunks_of manager) (cib_chunks_of manager) c.args.index = cc in
    let bytes : c.deref.result.now ≡ block_of site.block_size image at = c.deref.ensures.value ∙ (c.in-Ok.ensures.found image told ∙ ap (block_of site.block_size image) named.same) in
    let tested = cib-test manager c.args.index c.share-count.result c.deref.result.now (block_of site.block_size image at) c.has_count.result c.has_count.ensures count bytes in
    let right : c.has_count.result ≡ true = cc in
    record {
      placed = subst (λ b. is_in_pool site manager b ≡ true) named.same c.in-Ok.ensures.placed;
      sound = subst (λ b. is_info image site cib_kind b ≡ true) named.same (c.in-Ok.ensures.sound image told);
      right = tested ∙ right;
    }
