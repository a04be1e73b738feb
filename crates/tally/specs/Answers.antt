-- How a call went, whatever it answers.
use Rattle.std.specs.Prelude.{Ok, Err, Result}
use Rattle.faults.specs.declared.Fault.{Fault}
use Rattle.faults.specs.declared.Question.{Question}

-- Accepted, or refused by a question.
abbrev pub outcome_of : {T : Type 0} → Result T Fault → Result (Unit {0}) Question
outcome_of (Ok x) = Ok tt
outcome_of (Err f) = Err f.question
