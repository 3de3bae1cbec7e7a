use Rattle.std.proofs.Common.{rules, of_calls, sym, ◌∙◌}
use Rattle.std.proofs.lemmas.Fn.{always_returns_same}
use Rattle.view_sweep.specs.declared.used.Used.{Used}
use Rattle.view_sweep.specs.Order.{used_rank}
use Rattle.view_sweep.proofs.Idles.{search-found, search-none}
use Rattle.view_sweep.proofs.idle.is_among.Goals as goal

pub returns : goal.returns
returns c = record {
  one = λ e.
      search-found c.args.sorted.now c.args.one.now c.binary_search_by-found.result (sym c.is_ok.ensures.value ∙ e) c.binary_search_by-found.ensures.bound
      (c.binary_search_by-found.ensures.position (λ (u : Used). used_rank u c.args.one.now) (always_returns_same _ _ _ (λ a r f k. search (rules, of_calls))));
  none = λ e h.
      search-none c.args.sorted.now c.args.one.now c.binary_search_by-found.result c.requires.sorted (sym c.is_ok.ensures.value ∙ e)
      (c.binary_search_by-found.ensures.position (λ (u : Used). used_rank u c.args.one.now) (always_returns_same _ _ _ (λ a r f k. search (rules, of_calls)))) h;
}
