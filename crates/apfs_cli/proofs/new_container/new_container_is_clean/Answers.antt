-- The corollary.
use Rattle.apfs_cli.proofs.Clean.{formatted-is-clean}
use Rattle.apfs_cli.proofs.new_container.new_container_is_clean.Goals as goal

pub returns : goal.returns
returns c = formatted-is-clean
