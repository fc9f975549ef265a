-- The search from the end meets the last slash. Assumes nothing.
use Rattle.std.proofs.Common.{sym, arith}
use Rattle.std.proofs.lemmas.Grind.{common_steps}
use Rattle.files.proofs.Paths.{folder_at}
use Rattle.files.proofs.path.folder.Goals as goal

pub returns-in-Some : goal.returns-in-Some
returns-in-Some c =
    sym
    (folder_at
    c.args.path.now
    c.in-Some.n
    (grind (arith, common_steps))
    (grind (arith, common_steps))
    (λ k h l. grind (arith, common_steps)))
