-- The blocks of the directory are there, and its two rules are asked in order.
use Rattle.std.proofs.Common.{None, ap, ◌∙◌}
use Rattle.volume.specs.Directories.{good_dots}
use Rattle.volume.specs.Rules.{s7, s8}
use Rattle.volume.specs.Soundness.{unless}
use Rattle.volume.specs.declared.rule.Rule.TheVariants.{Dots, Entries}
use Rattle.volume.proofs.Checking.{broken, kept}
use Rattle.volume.proofs.RuleFacts.{directory_there}
use Rattle.volume.proofs.framed.Framed.inspect_entries.Goals as goal

pub load_directory-directory-requires-clause-there : goal.load_directory-directory-requires-clause-there
load_directory-directory-requires-clause-there g c =
    rw c.requires.first (directory_there (g.S.Store.blocks c.args.self.now.live.now.store.now) c.args.self.now.sizes c.requires.root c.requires.addresses)

pub returns-then-not-has_good_dots : goal.returns-then-not-has_good_dots
returns-then-not-has_good_dots g c =
    broken _ Dots _ (c.if-not-has_good_dots.ensures ∙ ap good_dots c.load_directory-directory.ensures.directory)

pub returns-then-not-entries_are_good : goal.returns-then-not-entries_are_good
returns-then-not-entries_are_good g c =
    let v = g.S.Store.blocks c.args.self.now.live.now.store.now in
    kept (s7 v) Dots (unless (s8 v) Entries None) (c.if-not-has_good_dots.ensures ∙ ap good_dots c.load_directory-directory.ensures.directory) ∙ broken (s8 v) Entries None c.if-not-entries_are_good.ensures

pub returns : goal.returns
returns g c =
    let v = g.S.Store.blocks c.args.self.now.live.now.store.now in
    let loaded = c.load_directory-directory.ensures in (
      kept (s7 v) Dots (unless (s8 v) Entries None) (c.if-not-has_good_dots.ensures ∙ ap good_dots loaded.directory) ∙ kept (s8 v) Entries None c.if-not-entries_are_good.ensures,
      record {
        superblock = c.args.self.now.read;
        root = c.requires.first;
        entries = loaded.entries;
        directory = loaded.directory;
        front = loaded.front;
        long = loaded.long;
      },
    )
