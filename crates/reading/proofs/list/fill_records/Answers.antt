-- One entry more.
use Rattle.std.proofs.Common.{◌≡◌, ◌+◌, ◌<◌, true, false, cond, ◌++◌, map, length, drop, set, sym, refl, ap, ◌∙◌, arith, rules}
use Rattle.volume.specs.Directories.{used}
use Rattle.volume.specs.Rules.{directory_of, entry_count}
use Rattle.volume.specs.VolumeFiles.{used_among}
use Rattle.reading.proofs.Listing.{used_among-none, count-more, length-records, room_left, records_next}
use Rattle.reading.specs.Listings.{one, record_at, records_among, records_of}
use Rattle.reading.proofs.list.fill_records.Goals as goal
use Rattle.reading.proofs.list.fill_records.Goals.{then-is_used, else-is_used}

pub loop-e-init : goal.loop-e-init
loop-e-init g c =
    let v = g.S.Store.blocks c.args.volume.now.live.store.now in
    let none = used_among-none (directory_of v) in
    record { count = sym (ap length none); sofar = sym (ap (λ xs. map (record_at v (directory_of v)) xs ++ c.args.records.now) none) }

pub bounds-records-filled : goal.bounds-records-filled
bounds-records-filled g c =
    let o = c.args.volume.now in
    let v = g.S.Store.blocks o.live.store.now in
    let room = room_left v (directory_of v) (entry_count v) c.loop-e.e c.loop-e.filled _ o.loaded.directory c.if-is_used.ensures (omega (arith, o.loaded.entries)) c.loop-e.invariant.count c.requires in
    omega (arith, room, c.loop-e.auto.records)

pub offset_bounds-records-filled : goal.offset_bounds-records-filled
offset_bounds-records-filled g c =
    let o = c.args.volume.now in
    let v = g.S.Store.blocks o.live.store.now in
    let room = room_left v (directory_of v) (entry_count v) c.loop-e.e c.loop-e.filled _ o.loaded.directory c.if-is_used.ensures (omega (arith, o.loaded.entries)) c.loop-e.invariant.count c.requires in
    let lt : c.loop-e.filled < length c.loop-e.records = omega (arith, room, c.loop-e.auto.records) in search rules

pub overflow_add-filled : goal.overflow_add-filled
overflow_add-filled g c =
    let o = c.args.volume.now in
    let v = g.S.Store.blocks o.live.store.now in
    let room = room_left v (directory_of v) (entry_count v) c.loop-e.e c.loop-e.filled _ o.loaded.directory c.if-is_used.ensures (omega (arith, o.loaded.entries)) c.loop-e.invariant.count c.requires in
    let lt : c.loop-e.filled < length c.loop-e.records = omega (arith, room, c.loop-e.auto.records) in search rules

pub loop-e-preserved : goal.loop-e-preserved
loop-e-preserved g c =
    let o = c.args.volume.now in
    let v = g.S.Store.blocks o.live.store.now in
    let d = directory_of v in
    let e = c.loop-e.e in
    let filled = c.loop-e.filled in
    let records = c.loop-e.records in
    let before = c.args.records.now in
    let more = count-more d e in
    let room : used d e ≡ true → filled < length before = λ is. room_left v d (entry_count v) e filled _ refl (sym is) (omega (arith, o.loaded.entries)) c.loop-e.invariant.count c.requires in
    let next = records_next v d e filled before records c.loop-e.invariant.count room c.loop-e.invariant.sofar in
    elim c.if-is_used.branch [
      | then-is_used w ↦
          let is : used d e ≡ true = ap (λ f. used f e) (sym o.loaded.directory) ∙ sym c.is_used.ensures ∙ w.if-is_used.true in
          let here : one d e ≡ 1 = ap (λ b. cond b 1 0) is in
          let count : filled + one d e ≡ c.if-is_used.filled = omega arith in
          record {
            count = omega arith;
            sofar = w.records-is ∙ ap (set records filled) w.load_record.ensures ∙ sym (ap (λ b. cond b (set records filled (record_at v d e)) records) is) ∙ next ∙ ap (λ k. records_among v d (e + 1) ++ drop k before) count;
          }
      | else-is_used w ↦
          let is : used d e ≡ false = ap (λ f. used f e) (sym o.loaded.directory) ∙ sym c.is_used.ensures ∙ w.if-is_used.false in
          let here : one d e ≡ 0 = ap (λ b. cond b 1 0) is in
          let count : filled + one d e ≡ c.if-is_used.filled = omega arith in
          record {
            count = omega arith;
            sofar = w.records-is ∙ sym (ap (λ b. cond b (set records filled (record_at v d e)) records) is) ∙ next ∙ ap (λ k. records_among v d (e + 1) ++ drop k before) count;
          }
    ]

pub returns : goal.returns
returns g c =
    let o = c.args.volume.now in
    let v = g.S.Store.blocks o.live.store.now in
    let d = directory_of v in
    let all : c.loop-e.e ≡ entry_count v = omega (arith, o.loaded.entries) in
    let count : c.loop-e.filled ≡ length (records_of v) = c.loop-e.invariant.count ∙ ap (λ n. length (used_among d n)) all ∙ sym (length-records v d (entry_count v)) in
    c.loop-e.invariant.sofar ∙ ap (λ n. records_among v d n ++ drop c.loop-e.filled c.args.records.now) all ∙ ap (λ k. records_of v ++ drop k c.args.records.now) count
