use Rattle.std.proofs.Common.{arith, ◌+◌, ◌∙◌, ◌++◌, length, drop, ap}
use Rattle.apfs_model.specs.Bytes.{u16_at, number_at}
use Rattle.img_plan.proofs.Kept.{number_before, rest_stays, take_put, drop_put}
use Rattle.img_plan.proofs.records.names.put_name.Goals as goal

pub returns-clause-named : goal.returns-clause-named
unfolding u16_at
returns-clause-named c =
    let place = c.args.place in
    let name = c.args.name.now in
    let written = c.put_u16.new.block in record {
      len = ap (λ l. number_at 2 l place) c.put_bytes.ensures ∙ number_before 2 written _ place (place + 2) (omega arith) (take_put (place + 2) name written (omega arith)) ∙ c.put_u16.ensures.value;
      rest = ap (λ l. drop (place + 2) l) c.put_bytes.ensures ∙ drop_put (place + 2) name written (omega arith)
          ∙ ap (λ l. name ++ l) (rest_stays c.args.bytes.now written place (place + 2) (place + 2 + length name) (omega arith) c.put_u16.ensures.same ∙ c.requires.last);
    }
