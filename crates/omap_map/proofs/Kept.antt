-- What was gathered of the trees of a map.
use Rattle.std.specs.Prelude.{◌≡◌, ℕ, ◌+◌, ◌≤◌, Bool, true, false, List, [], ◌∷◌, ◌++◌, length, refl}
use Rattle.std.proofs.Common.{arith, ap, sym, ◌∙◌, subst, append-nil}
use Rattle.std.proofs.lemmas.List.Concat.{flat_map-append}
use Rattle.obj_base.specs.declared.stop.Stop.{Stop}
use Rattle.obj_base.specs.declared.stop.Stop.TheVariants.{Found, Unsupported, ReadFault, NoMemory}
use Rattle.obj_base.specs.Stops.{Tells}
use Rattle.bt_node.specs.Entries.{Pair}
use Rattle.bt_keys.specs.Shapes.{omap_shape}
use Rattle.bt_cursor.specs.declared.gathering.GatherFault.{GatherFault}
use Rattle.bt_cursor.specs.declared.gathering.GatherFault.TheVariants as gathers
use Rattle.bt_cursor.specs.Tree.{Tree}
use Rattle.bt_cursor.specs.Line.{Item}
use Rattle.bt_cursor.specs.WholeTree.{leaf_pairs}
use Rattle.bt_cursor.specs.Met.{nodes_of}
use Rattle.bt_cursor.specs.Faults.{HasFeature}
use Rattle.bt_cursor.specs.Gathered.{IsGatherFault, IsGathered, IsInOrder}
use Rattle.bt_cursor.specs.Steps.{step_in, steps_in}
use Rattle.bt_cursor.specs.declared.step.Step.{Step}
use Rattle.bt_cursor.proofs.Flats.{line-pairs}
use Rattle.bt_cursor.proofs.Lines.{leaf_pairs-append}
use Rattle.bt_cursor.proofs.Wholes.{means_whole}
use Rattle.omap_map.specs.Records.{records_of}
use Rattle.omap_map.specs.Loading.{IsAscending}
use Rattle.omap_map.specs.Maps.{IsTreeFault}
use Rattle.omap_map.specs.Gathered.{SaysOfMap, Gives, IsTree}
use Rattle.omap_map.specs.declared.records.OmapRecord.{OmapRecord}
use Rattle.omap_map.specs.declared.fault.OmapFault.{OmapFault}
use Rattle.omap_map.specs.declared.fault.OmapFault.TheVariants.{Tree as TreeFault}
use Rattle.omap_map.proofs.Orders.{ascending-ordered}

-- why a walk stops is there, said of the map
pub says_tells : {K : Type 0} (tree : Tree K) (root : ℕ) (stop : Stop GatherFault) (other : Stop OmapFault) → SaysOfMap root stop other → Tells (IsGatherFault tree root (λ _. false)) (HasFeature tree root) stop → Tells (IsTreeFault tree root) (HasFeature tree root) other
says_tells tree root (Found (gathers.Tree why)) other says told = subst (Tells (IsTreeFault tree root) (HasFeature tree root)) (sym says) (refl, told)
says_tells tree root (Found (gathers.Refused item)) other says told = absurd says
says_tells tree root (Unsupported feature block) other says told = subst (Tells (IsTreeFault tree root) (HasFeature tree root)) (sym says) told
says_tells tree root ReadFault other says told = subst (Tells (IsTreeFault tree root) (HasFeature tree root)) (sym says) tt
says_tells tree root NoMemory other says told = subst (Tells (IsTreeFault tree root) (HasFeature tree root)) (sym says) tt

-- a failed read is one of the walk
pub says_read : (root : ℕ) (stop : Stop GatherFault) (other : Stop OmapFault) → SaysOfMap root stop other → other ≡ ReadFault → stop ≡ ReadFault
says_read root (Found (gathers.Tree why)) other says e = absurd (cc)
says_read root (Found (gathers.Refused item)) other says e = absurd says
says_read root (Unsupported feature block) other says e = absurd (cc)
says_read root ReadFault other says e = refl
says_read root NoMemory other says e = absurd (cc)

-- what one more item gives was gathered
pub gives-more : {T : Type 0} (gives : List Pair → List T) → ((ps qs : List Pair) → gives (ps ++ qs) ≡ gives ps ++ gives qs) → (given later : List T) (steps further : List Step) (items : List Item) (item : Item)
    → Gives gives given steps items → later ≡ given ++ gives (leaf_pairs (item ∷ [])) → further ≡ steps ++ step_in item → Gives gives later further (items ++ item ∷ [])
gives-more gives joins given later steps further items item had e f = record {
  same = e ∙ (ap (λ xs. xs ++ gives (leaf_pairs (item ∷ []))) had.same ∙ (sym (joins (leaf_pairs items) (leaf_pairs (item ∷ []))) ∙ ap gives (sym (leaf_pairs-append items (item ∷ [])))));
  taken = f ∙ (ap (λ xs. xs ++ step_in item) had.taken ∙ (ap (λ xs. steps_in items ++ xs) (sym (append-nil (step_in item))) ∙ sym (flat_map-append step_in items (item ∷ []))));
}

-- what a whole tree gives was gathered
pub gathered-tree : {K T : Type 0} (gives : List Pair → List T) (tree : Tree K) (root : ℕ) (given : List T) (steps : List Step) (start reads : ℕ) → IsGathered tree root (Gives gives given steps) (λ _. false) → reads ≤ start + length (nodes_of tree root) → IsTree gives tree root given steps start reads
gathered-tree gives tree root given steps start reads all few = record {
  same = all.held.same ∙ ap gives (line-pairs tree root);
  taken = all.held.taken;
  whole = means_whole tree root all.whole;
  few = few;
}

-- the records of items in order ascend
pub gathered-ascending : (given : List OmapRecord) (steps : List Step) → IsInOrder omap_shape (Gives records_of given steps) → IsAscending given
gathered-ascending given steps order = subst (λ (rs : List OmapRecord). IsAscending rs) (sym order.held.same) (ascending-ordered order.items order.ordered)
