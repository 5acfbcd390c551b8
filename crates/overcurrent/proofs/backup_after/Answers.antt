-- `backup_after` meets its contract: each end by itself.
use borrow.Author.Rules.{rules}
use Rattle.overcurrent.proofs.BackupLaws.{by_ends}
use Rattle.overcurrent.proofs.backup_after.Goals as goal

pub returns : goal.returns
returns c = by_ends _ _ _ _ _ c.requires.on (search rules) (search rules) (search rules) (search rules)
