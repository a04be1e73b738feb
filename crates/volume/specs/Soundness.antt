-- Which rule of a sound volume is broken first, and what the check answers.
use Rattle.std.specs.Prelude.{Bool, cond, List, Some, None, Ok, Err, Option, Result}
use Rattle.store.specs.Stores.{Block, Mark, all_live}
use Rattle.faults.specs.declared.Fault.{Fault}
use Rattle.volume.specs.Rules.{s1, s2, s3, s4, s5, s6, s7, s8}
use Rattle.volume.specs.declared.rule.Rule.{Rule}
use Rattle.volume.specs.declared.rule.Rule.TheVariants.{Sizes, FreeList, Root, Inodes, Addresses, Blocks, Dots, Entries}

-- A rule that is broken, or what comes after it.
abbrev pub unless : Bool → Rule → Option Rule → Option Rule
unless holds rule later = cond holds later (Some rule)

-- The first broken rule of the directory.
abbrev pub broken_entries : List Block → Option Rule
broken_entries v = unless (s7 v) Dots (unless (s8 v) Entries None)

-- The first broken rule from the addresses on.
abbrev pub broken_addresses : List Block → Option Rule
broken_addresses v = unless (s5 v) Addresses (unless (s6 v) Blocks (broken_entries v))

-- The first broken rule from the inodes on.
abbrev pub broken_inodes : List Block → Option Rule
broken_inodes v = unless (s3 v) Root (unless (s4 v) Inodes (broken_addresses v))

-- The first broken rule of a volume, or none where it is sound.
abbrev pub first_broken : List Block → Option Rule
first_broken v = unless (s1 v) Sizes (unless (s2 v) FreeList (broken_inodes v))

-- What follows an answer that is no refusal.
abbrev pub afterwards : {X : Type 0} → Result (Unit {0}) Fault → X → Result X Fault
afterwards (Ok u) x = Ok x
afterwards (Err f) x = Err f

-- What follows an answer that is no refusal, where that may be a refusal of its own.
abbrev pub followed_by : {X : Type 0} → Result (Unit {0}) Fault → Result X Fault → Result X Fault
followed_by (Ok u) next = next
followed_by (Err f) next = Err f

-- The check asks by question 2 whether every block is live, and answers the first broken rule.
abbrev pub check_call : List Block → List Mark → Result (Option Rule) Fault
check_call v marks = afterwards (all_live marks) (first_broken v)
