-- The order of keys.
use Rattle.std.specs.Prelude.{Bool, ◌&&◌, ◌||◌, ◌==◌, nat_lt}
use Rattle.bt_node.specs.declared.key.Rank.{Rank}

-- one rank is below another: by the id, then by the kind, then by the rest
abbrev pub is_below : Rank → Rank → Bool
is_below a b = nat_lt a.id b.id || ((a.id == b.id) && (nat_lt a.kind b.kind || ((a.kind == b.kind) && nat_lt a.sub b.sub)))

-- two ranks are one
abbrev pub is_same_rank : Rank → Rank → Bool
is_same_rank a b = (a.id == b.id) && ((a.kind == b.kind) && (a.sub == b.sub))
