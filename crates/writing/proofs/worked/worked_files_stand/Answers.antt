-- The worked cases, as they are proved.
use Rattle.writing.proofs.WorkedCases.{worked_files}
use Rattle.writing.proofs.worked.worked_files_stand.Goals as goal

pub returns : goal.returns
returns c = worked_files
