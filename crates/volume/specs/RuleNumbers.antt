-- The number of each rule.
use Rattle.std.specs.Prelude.{ℕ}
use Rattle.volume.specs.declared.rule.Rule.{Rule}
use Rattle.volume.specs.declared.rule.Rule.TheVariants.{Sizes, FreeList, Root, Inodes, Addresses, Blocks, Dots, Entries}

abbrev pub rule_number : Rule → ℕ
rule_number Sizes = 1
rule_number FreeList = 2
rule_number Root = 3
rule_number Inodes = 4
rule_number Addresses = 5
rule_number Blocks = 6
rule_number Dots = 7
rule_number Entries = 8
