use Rattle.std.proofs.Common.{◌≡◌, ◌==◌, ◌∙◌, Bool, List, Option, [], take, drop, map, ap, sym, subst, cond, false}
use Rattle.std.specs.Prelude.{filter}
use Rattle.std.proofs.lemmas.Bool.Decides.{Decides-eqb}
use Rattle.apfs_model.specs.Lists.{In}
use Rattle.apfs_model.proofs.Searches.{from-filter, filter-test}
use Rattle.fs_record.specs.Entries.{Entry}
use Rattle.fs_record.specs.Facts.{Fact, is_reserved}
use Rattle.path_search.specs.Found.{entries_in}
use Rattle.path_search.specs.Parts.{whats, kind_by, Rises}
use Rattle.path_search.specs.declared.kinds.KindAndSize.{KindAndSize}
use Rattle.path_search.proofs.Listed.{told_part}
use Rattle.path_walk.proofs.told.ToldFiles.directory.Goals as goal

pub returns-clause-counted : goal.returns-clause-counted
returns-clause-counted c facts t e h =
    let es : List (Fact Entry) = c.args.self.now.entries.items in
    let test = λ (f : Fact Entry). f.id == c.args.id in
    let rise : Rises c.deref.result.now = subst (λ (l : List (Fact Entry)). Rises l) (sym c.deref.ensures.value) t.entries_rise in
    let same : c.part.result.now ≡ filter test es =
    c.part.ensures.items ∙ (ap (λ (l : List (Fact Entry)). take c.run_at-from.result.1 (drop c.run_at-from.result.0 l)) (c.deref-2.ensures.value ∙ sym c.deref.ensures.value) ∙ (c.run_at-from.ensures.run rise ∙ ap (filter test) c.deref.ensures.value)) in
    let k : In e (filter test es) = subst (λ (l : List (Fact Entry)). In e l) same h in (
      subst (λ (l : List (Fact Entry)). In e l) t.all_entries (from-filter test e es k),
      ap is_reserved ((Decides-eqb e.id c.args.id).0 (filter-test test e es k)) ∙ (sym c.is_reserved.ensures ∙ c.if-is_reserved.false),
    )

pub returns-clause-all : goal.returns-clause-all
unfolding entries_in
returns-clause-all c facts t =
    let es : List (Fact Entry) = c.args.self.now.entries.items in
    let test = λ (f : Fact Entry). f.id == c.args.id in
    let rise : Rises c.deref.result.now = subst (λ (l : List (Fact Entry)). Rises l) (sym c.deref.ensures.value) t.entries_rise in
    let same : c.part.result.now ≡ filter test es =
    c.part.ensures.items ∙ (ap (λ (l : List (Fact Entry)). take c.run_at-from.result.1 (drop c.run_at-from.result.0 l)) (c.deref-2.ensures.value ∙ sym c.deref.ensures.value) ∙ (c.run_at-from.ensures.run rise ∙ ap (filter test) c.deref.ensures.value)) in
    let free : is_reserved c.args.id ≡ false = sym c.is_reserved.ensures ∙ c.if-is_reserved.false in
    ap whats same ∙ (ap (λ (l : List (Fact Entry)). whats (filter test l)) t.all_entries ∙ sym (ap (λ (b : Bool). cond b [] (whats (filter test facts.entries))) free))

pub returns-clause-kinds : goal.returns-clause-kinds
returns-clause-kinds c facts t =
    let from = c.run_at-from.result.0 in
    let n = c.run_at-from.result.1 in
    c.part-2.ensures.items
    ∙ (ap (λ (l : List (Option KindAndSize)). take n (drop from l)) (c.deref-3.ensures.value ∙ t.all_kinds)
    ∙ (told_part (kind_by facts) c.args.self.now.entries.items from n
    ∙ ap (λ (l : List (Fact Entry)). map (kind_by facts) (whats l)) (sym (c.part.ensures.items ∙ ap (λ (l : List (Fact Entry)). take n (drop from l)) c.deref-2.ensures.value))))
