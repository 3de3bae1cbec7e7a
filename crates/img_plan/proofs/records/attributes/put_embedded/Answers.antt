use Rattle.std.proofs.Common.{arith, ◌+◌, ◌∙◌, ◌++◌, length, drop, ap}
use Rattle.std.proofs.lemmas.List.{append-nil, drop_all}
use Rattle.apfs_model.specs.Bytes.{u16_at, number_at}
use Rattle.img_plan.proofs.Kept.{number_before, stays_before, take_put, drop_put}
use Rattle.img_plan.proofs.records.attributes.put_embedded.Goals as goal

pub returns : goal.returns
unfolding u16_at
returns c =
    let written = c.put_u16-2.new.block in
    let contents = c.args.contents.now in record {
      flags = ap (λ l. number_at 2 l 0) c.put_bytes.ensures ∙ number_before 2 written _ 0 4 (omega arith) (take_put 4 contents written (omega arith)) ∙ stays_before 2 _ _ 0 2 4 (omega arith) c.put_u16-2.ensures.same ∙ c.put_u16.ensures.value;
      contents_len = ap (λ l. number_at 2 l 2) c.put_bytes.ensures ∙ number_before 2 written _ 2 4 (omega arith) (take_put 4 contents written (omega arith)) ∙ c.put_u16-2.ensures.value;
      contents_after = ap (λ l. drop 4 l) c.put_bytes.ensures ∙ drop_put 4 contents written (omega arith) ∙ ap (λ l. contents ++ l) (drop_all (4 + length contents) written (omega arith)) ∙ append-nil contents;
    }
