use Rattle.std.proofs.Common.{◌∙◌}
use Rattle.bt_keys.specs.RecordKey.{inode_record}
use Rattle.bt_cursor.specs.Cursors.{root_of, left_of}
use Rattle.bt_cursor.proofs.Runs.{left-from}
use Rattle.path_search.proofs.Searched.{inode_from}
use Rattle.path_search.proofs.Stays.{stays_by, stays_on, stops_on}
use Rattle.path_search.proofs.search.find_inode.Goals as goal

pub returns-in-Ok-next_inode-clause-found : goal.returns-in-Ok-next_inode-clause-found
returns-in-Ok-next_inode-clause-found g c image told on ordered =
    inode_from g.K.FsTreeKey.HASHED image c.args.cursor.now (root_of c.args.cursor.now) c.args.id (left_of c.seek.new.self image) c.in-Ok-next_inode.inode g.met.K.FsTreeKey.of_tree ordered
    (left-from image c.args.cursor.now c.seek.new.self (record { id = c.args.id; kind = inode_record; sub = 0 }) ordered (c.in-Ok.ensures.left image told on ordered)) (c.in-Ok-next_inode.ensures.found image (c.in-Ok.ensures.kept.same_bytes ∙ told))

pub returns-in-Ok-next_inode-clause-stays : goal.returns-in-Ok-next_inode-clause-stays
returns-in-Ok-next_inode-clause-stays g c =
    stays_on (stays_by c.args.cursor.now c.seek.new.self c.in-Ok.ensures.site c.in-Ok.ensures.root c.in-Ok.ensures.tree c.in-Ok.ensures.kept c.in-Ok.ensures.within) c.in-Ok-next_inode.ensures.stays

pub returns-in-Err-next_inode-clause-stays : goal.returns-in-Err-next_inode-clause-stays
returns-in-Err-next_inode-clause-stays g c =
    stays_on (stays_by c.args.cursor.now c.seek.new.self c.in-Ok.ensures.site c.in-Ok.ensures.root c.in-Ok.ensures.tree c.in-Ok.ensures.kept c.in-Ok.ensures.within) c.in-Err-next_inode.ensures.stays

pub returns-in-Err-next_inode-clause-stops : goal.returns-in-Err-next_inode-clause-stops
returns-in-Err-next_inode-clause-stops g c =
    stops_on (stays_by c.args.cursor.now c.seek.new.self c.in-Ok.ensures.site c.in-Ok.ensures.root c.in-Ok.ensures.tree c.in-Ok.ensures.kept c.in-Ok.ensures.within) c.in-Err-next_inode.ensures.stops
