-- The law of changes.
use Rattle.rule_changes.specs.Laws.{ChangeKeepsRules}
use Rattle.rule_changes.proofs.Weaving.{clear-after}
use Rattle.rule_changes.proofs.Kept.{parents-kept, files-kept, kinds-kept, owners-kept}
use Rattle.rule_changes.proofs.Named.{entry-names-kept, attribute-names-kept, ascii-hashes-kept, name-hashes-kept}
use Rattle.rule_changes.proofs.Counted.{directory-names-kept, links-kept, children-kept, marks-kept}
use Rattle.rule_changes.proofs.Climbs.{ways-kept}
use Rattle.rule_changes.proofs.Fellows.{entry-fellows-kept, link-fellows-kept, map-fellows-kept}
use Rattle.rule_changes.proofs.Streams.{extent-order-kept, targets-kept}

pub change-keeps : ChangeKeepsRules
change-keeps profile site ranges before after gone come same b c t =
    let named = directory-names-kept before after gone come same c b.directory_names t.directory_names in
    let housed = parents-kept before after gone come same c t.inodes b.parents t.parents in
    let fellows = entry-fellows-kept before after gone come same c t.fellows b.entry_fellows in
    record {
      entry_names = entry-names-kept before after gone come same c b.entry_names t.entry_names;
      attribute_names = attribute-names-kept before after gone come same c b.attribute_names t.attribute_names;
      ascii_hashes = ascii-hashes-kept before after gone come same c b.ascii_hashes t.ascii_hashes;
      parents = housed;
      files = files-kept before after gone come same c t.inodes b.files t.files;
      root = t.root;
      kinds = kinds-kept before after gone come same c t.inodes b.files b.kinds t.kinds;
      directory_names = named;
      root_name = t.root_name;
      ways = ways-kept before after gone come same c b.ways named housed t.ways;
      children = children-kept before after gone come same c b.children t.children;
      links = links-kept before after gone come same c b.links t.links;
      entry_fellows = fellows;
      link_fellows = link-fellows-kept before after gone come same c t.fellows b.link_fellows;
      map_fellows = map-fellows-kept before after gone come same c t.fellows fellows b.map_fellows;
      marks = marks-kept before after gone come same c b.marks t.marks t.shared;
      extent_order = extent-order-kept site.block_size before after gone come same c b.extent_order t.extent_order;
      extent_places = clear-after c.left.extents c.made.extents b.extent_places t.extent_places;
      cover = clear-after c.left.extents c.made.extents b.cover t.cover;
      targets = targets-kept before after gone come same c b.targets t.targets;
      stream_sizes = clear-after c.left.inodes c.made.inodes b.stream_sizes t.stream_sizes;
      body_sizes = clear-after c.left.attributes c.made.attributes b.body_sizes t.body_sizes;
      owners = owners-kept before after gone come same c t.inodes b.owners t.owners;
      name_hashes = λ strict. name-hashes-kept before after gone come same c (b.name_hashes strict) (t.name_hashes strict);
    }
