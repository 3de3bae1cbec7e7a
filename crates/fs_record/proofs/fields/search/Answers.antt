use Rattle.std.proofs.Common.{◌≡◌, ◌+◌, ◌-◌, length, map, true, false, Err, Ok, rules, arith, sym, ap, subst, ◌∙◌}
use Rattle.std.specs.List.{range_with_len}
use Rattle.std.proofs.lemmas.Bool.Decides.{nat_tests}
use Rattle.std.proofs.lemmas.Grind.{common_steps}
use Rattle.fs_record.specs.Fields.{laid_out, placed, size_at, padded}
use Rattle.fs_record.specs.Search.{fits, field_seen, place_after}
use Rattle.fs_record.specs.declared.fields.Field.{Field}
use Rattle.fs_record.proofs.Places.{place_out, place_short, place_more, seen_inside, fields_next, fields_end}
use Rattle.fs_record.proofs.fields.search.Goals as goal

pub returns-then-value-start-clause-found : goal.returns-then-value-start-clause-found
returns-then-value-start-clause-found c =
    let value = c.args.value.now in
    let out : fits (length value) c.field_at-field.result ≡ false = grind (arith, nat_tests, common_steps, c.if-value-start) in
    sym (c.fields.invariant.decides ∙ (ap (place_after (length value) c.args.kind c.args.least c.fields.found) (fields_next value c.args.at c.fields.start c.fields.i c.count-count.result (search rules))
    ∙ place_out (length value) c.args.kind c.args.least c.fields.found _ _ (subst (λ (f : Field). fits (length value) f ≡ false) c.field_at-field.ensures.field out)))

pub returns-in-Err-clause-found : goal.returns-in-Err-clause-found
returns-in-Err-clause-found c =
    let value = c.args.value.now in
    sym (c.fields.invariant.decides ∙ (ap (place_after (length value) c.args.kind c.args.least c.fields.found) (fields_next value c.args.at c.fields.start c.fields.i c.count-count.result (search rules))
    ∙ place_short (length value) c.args.kind c.args.least c.fields.found _ _ _ (subst (λ (f : Field). field_seen c.args.kind c.args.least c.fields.found f ≡ Err c.in-Err.why) c.field_at-field.ensures.field (sym c.see.ensures ∙ c.in-Err.is))))

pub fields-preserved : goal.fields-preserved
fields-preserved c =
    let value = c.args.value.now in
    let next : Field = placed c.fields.start (size_at value c.args.at c.fields.i) in
    let is : c.field_at-field.result ≡ next = c.field_at-field.ensures.field in
    let fit : fits (length value) c.field_at-field.result ≡ true = grind (arith, nat_tests, common_steps, c.if-value-start) in
    let fits_next : fits (length value) next ≡ true = subst (λ (f : Field). fits (length value) f ≡ true) is fit in
    let seen : field_seen c.args.kind c.args.least c.fields.found next ≡ Ok c.in-Ok.found = subst (λ (f : Field). field_seen c.args.kind c.args.least c.fields.found f ≡ Ok c.in-Ok.found) is (sym c.see.ensures ∙ c.in-Ok.is) in
    let wide : c.padded-start.result ≡ padded next.len = c.padded-start.ensures.padded ∙ ap (λ (f : Field). padded f.len) is in
    record {
      decides = c.fields.invariant.decides ∙ (ap (place_after (length value) c.args.kind c.args.least c.fields.found) (fields_next value c.args.at c.fields.start c.fields.i c.count-count.result (search rules))
          ∙ (place_more (length value) c.args.kind c.args.least c.fields.found c.in-Ok.found next _ fits_next seen
          ∙ ap (λ n. place_after (length value) c.args.kind c.args.least c.in-Ok.found (laid_out (c.fields.start + n) (map (size_at value c.args.at) (range_with_len (c.fields.i + 1) (c.count-count.result - (c.fields.i + 1)))))) (sym wide)));
      near = (let starts : c.field_at-field.result.at ≡ c.fields.start = ap (λ (f : Field). f.at) is in
          omega (arith, starts, c.padded-start.ensures.near, c.if-value-start.false));
      inside = seen_inside (length value) c.args.kind c.args.least c.fields.found c.in-Ok.found next c.fields.invariant.inside fits_next seen;
    }

pub returns-clause-found : goal.returns-clause-found
returns-clause-found c = sym (c.fields.invariant.decides ∙ fields_end _ _ _ _ _ _ _ _ _ (search rules))
