-- Each question's number, and what the fields of its fault say.
use Rattle.std.specs.Prelude.{ℕ}
use Rattle.faults.specs.declared.Question.{Question}
use Rattle.faults.specs.declared.Question.TheVariants.{BlockBelowCount, BlockLive, RoomToCondemn, NoCoversYet, CoversWithinLimits, EnoughStoreBlocks, CoversLaidOut, RoomForLevel, KeySumOpen, CandidateBelowLimit, RemainderOdd, KeyOrthonormal, EnoughLevels, EnoughPlaces, LevelStanding, FormatWithinLimits, VolumeSound, NameLawful, LengthWithinLimit, NameAbsent, NamePresent, InodeFree, EntryFree, EnoughFreeBlocks}
use Rattle.faults.specs.declared.Fault.{Fault}

abbrev pub number_of : Question → ℕ
number_of BlockBelowCount = 1
number_of BlockLive = 2
number_of RoomToCondemn = 3
number_of NoCoversYet = 4
number_of CoversWithinLimits = 5
number_of EnoughStoreBlocks = 6
number_of CoversLaidOut = 7
number_of RoomForLevel = 8
number_of KeySumOpen = 9
number_of CandidateBelowLimit = 10
number_of RemainderOdd = 11
number_of KeyOrthonormal = 12
number_of EnoughLevels = 13
number_of EnoughPlaces = 14
number_of LevelStanding = 15
number_of FormatWithinLimits = 16
number_of VolumeSound = 17
number_of NameLawful = 18
number_of LengthWithinLimit = 19
number_of NameAbsent = 20
number_of NamePresent = 21
number_of InodeFree = 22
number_of EntryFree = 23
number_of EnoughFreeBlocks = 24

-- What a fault may name: a level, a block, a cover, a rule of soundness.
abbrev fault : Question → (level block cover rule : ℕ) → Fault
fault q level block cover rule = record { question = q; level = level; block = block; cover = cover; rule = rule }

-- Of most questions the number says it all.
abbrev pub bare : Question → Fault
bare q = fault q 0 0 0 0

-- Question 1 names the block asked for.
abbrev pub past_count : ℕ → Fault
past_count block = fault BlockBelowCount 0 block 0 0

-- Question 2 names the dead block, with the level and the cover of its mark.
abbrev pub dead_block : (block level cover : ℕ) → Fault
dead_block block level cover = fault BlockLive level block cover 0

-- Question 17 names the first rule that the volume breaks.
abbrev pub unsound : ℕ → Fault
unsound rule = fault VolumeSound 0 0 0 rule

-- A fault that comes up from a part of a store names the block as the whole store numbers it.
abbrev pub renumbered : ℕ → Fault → Fault
renumbered block f = fault f.question f.level block f.cover f.rule

-- A fault of a call that named a level has that level.
abbrev pub at_level : ℕ → Fault → Fault
at_level level f = fault f.question level f.block f.cover f.rule

-- The fault of each question, for a call that names no level, from the block, the mark and the rule at hand.
abbrev pub fault_of : Question → (block level cover rule : ℕ) → Fault
fault_of BlockBelowCount block level cover rule = past_count block
fault_of BlockLive block level cover rule = dead_block block level cover
fault_of RoomToCondemn block level cover rule = bare RoomToCondemn
fault_of NoCoversYet block level cover rule = bare NoCoversYet
fault_of CoversWithinLimits block level cover rule = bare CoversWithinLimits
fault_of EnoughStoreBlocks block level cover rule = bare EnoughStoreBlocks
fault_of CoversLaidOut block level cover rule = bare CoversLaidOut
fault_of RoomForLevel block level cover rule = bare RoomForLevel
fault_of KeySumOpen block level cover rule = bare KeySumOpen
fault_of CandidateBelowLimit block level cover rule = bare CandidateBelowLimit
fault_of RemainderOdd block level cover rule = bare RemainderOdd
fault_of KeyOrthonormal block level cover rule = bare KeyOrthonormal
fault_of EnoughLevels block level cover rule = bare EnoughLevels
fault_of EnoughPlaces block level cover rule = bare EnoughPlaces
fault_of LevelStanding block level cover rule = bare LevelStanding
fault_of FormatWithinLimits block level cover rule = bare FormatWithinLimits
fault_of VolumeSound block level cover rule = unsound rule
fault_of NameLawful block level cover rule = bare NameLawful
fault_of LengthWithinLimit block level cover rule = bare LengthWithinLimit
fault_of NameAbsent block level cover rule = bare NameAbsent
fault_of NamePresent block level cover rule = bare NamePresent
fault_of InodeFree block level cover rule = bare InodeFree
fault_of EntryFree block level cover rule = bare EntryFree
fault_of EnoughFreeBlocks block level cover rule = bare EnoughFreeBlocks
