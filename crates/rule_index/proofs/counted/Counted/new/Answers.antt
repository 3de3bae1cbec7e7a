use Rattle.std.proofs.Common.{◌∙◌, ap, subst, List}
use Rattle.std.specs.Prelude.{not}
use Rattle.std.specs.List.{list_any}
use Rattle.fs_record.specs.Entries.{Entry}
use Rattle.fs_record.specs.Attributes.{Attribute}
use Rattle.fs_record.specs.Inodes.{Inode}
use Rattle.fs_record.specs.Facts.{Fact}
use Rattle.view_rules.specs.Facts.{Facts}
use Rattle.rule_index.specs.Kins.{HasKins}
use Rattle.rule_index.specs.Homes.{HasHomes, is_astray}
use Rattle.rule_index.specs.Ids.{CountsIds, system_file, target_file}
use Rattle.rule_index.proofs.counted.Counted.new.Goals as goal

pub invariant_of-result : goal.invariant_of-result
invariant_of-result c = record {
  kins_right = subst (λ (inodes : List (Fact Inode)). HasKins inodes c.in_ok-kins.kins) (c.deref-3.ensures.value ∙ ap (λ (f : Facts). f.inodes) c.facts.view_is) c.in_ok-kins.ensures;
  homes_right = subst (λ (entries : List (Fact Entry)). HasHomes c.in_ok-kins.kins entries c.in_ok-counted.counted.0) (c.deref-4.ensures.value ∙ ap (λ (f : Facts). f.entries) c.facts.view_is) c.in_ok-counted.ensures.homes;
  whole_right = c.in_ok-counted.ensures.whole ∙ ap (λ (entries : List (Fact Entry)). not (list_any (is_astray c.in_ok-kins.kins) entries)) (c.deref-4.ensures.value ∙ ap (λ (f : Facts). f.entries) c.facts.view_is);
  directories_right = c.without_guesses-directories.ensures ∙ (c.deref-5.ensures.value ∙ ap (λ (f : Facts). f.entries) c.facts.view_is);
  system_right = subst (λ (entries : List (Fact Entry)). CountsIds system_file entries c.in_ok-system.system) (c.deref.ensures.value ∙ ap (λ (f : Facts). f.entries) c.facts.view_is) c.in_ok-system.ensures;
  targets_right = subst (λ (attributes : List (Fact Attribute)). CountsIds target_file attributes c.in_ok-targets.targets) (c.deref-2.ensures.value ∙ ap (λ (f : Facts). f.attributes) c.facts.view_is) c.in_ok-targets.ensures;
}
