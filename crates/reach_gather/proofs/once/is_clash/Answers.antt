use Rattle.bt_cursor.proofs.Gathers.{not-kept, not-refused}
use Rattle.reach_gather.proofs.Ties.{naming-same, naming-other, naming_eq}
use Rattle.reach_gather.proofs.once.is_clash.Goals as goal

-- a test whose opposite not-kept
pub returns-then-before-naming : goal.returns-then-before-naming
returns-then-before-naming c = record {
  clash = λ on.
      (c.if-before-naming.true, naming-other c.args.before.now c.args.naming.now (not-refused c.ne.result (naming_eq c.args.before.now c.args.naming.now) c.ne.ensures on));
  alike = λ off same.
      naming-same c.args.before.now c.args.naming.now (not-kept c.ne.result (naming_eq c.args.before.now c.args.naming.now) c.ne.ensures off);
}
