use Rattle.std.proofs.Common.{◌≡◌, ◌∙◌, ◌<◌, map, length, get_or, sym, ap, arith, below_more, bytes_eq}
use Rattle.std.proofs.lemmas.List.{get_or-map, length-map, ext_get_or}
use Rattle.std.proofs.lemmas.Slice.Eq.{bytes_eq-Decides}
use Rattle.std.specs.Prelude.{ℕ, List}
use Rattle.apfs_model.proofs.BoolTests.{never-true}
use Rattle.vol_view.specs.declared.records.SnapshotRecord.{SnapshotRecord}
use Rattle.vol_view.proofs.agree.are_same.Goals as goal

pub places-preserved : goal.places-preserved
places-preserved c =
    let i = c.places.i in
    let known = c.args.known.now in
    let snapshots = c.args.snapshots.now in
    let low : i < length known = omega arith in
    let low2 : i < length snapshots = omega (arith, c.if-known-snapshots.false) in
    below_more _ _ c.places.invariant
    (get_or-map (λ (s : ℕ × ℕ). s.0) known i (0, 0) 0 low ∙ (c.if-known-i.false ∙ sym (get_or-map (λ (s : SnapshotRecord). s.xid) snapshots i c.index-snapshots-i.result 0 low2)))

pub returns-then-known-i : goal.returns-then-known-i
returns-then-known-i c =
    let i = c.places.i in
    let known = c.args.known.now in
    let snapshots = c.args.snapshots.now in
    let xs : List ℕ = map (λ (s : ℕ × ℕ). s.0) known in
    let ys : List ℕ = map (λ (s : SnapshotRecord). s.xid) snapshots in
    let low : i < length known = omega arith in
    let low2 : i < length snapshots = omega (arith, c.if-known-snapshots.false) in
    sym (never-true (bytes_eq xs ys) (λ t.
    let same : xs ≡ ys = (bytes_eq-Decides xs ys).0 t in
    c.if-known-i.true (sym (get_or-map (λ (s : ℕ × ℕ). s.0) known i (0, 0) 0 low) ∙ (ap (λ zs. get_or zs i 0) same ∙ get_or-map (λ (s : SnapshotRecord). s.xid) snapshots i c.index-snapshots-i.result 0 low2))))

pub returns : goal.returns
returns c =
    let known = c.args.known.now in
    let snapshots = c.args.snapshots.now in
    let xs : List ℕ = map (λ (s : ℕ × ℕ). s.0) known in
    let ys : List ℕ = map (λ (s : SnapshotRecord). s.xid) snapshots in
    let first : length xs ≡ length known = length-map known (λ (s : ℕ × ℕ). s.0) in
    let second : length ys ≡ length snapshots = length-map snapshots (λ (s : SnapshotRecord). s.xid) in
    let same : length xs ≡ length ys = omega (arith, first, second, c.if-known-snapshots.false) in
    sym ((bytes_eq-Decides xs ys).1 (ext_get_or 0 xs ys same (λ k low. c.places.invariant k (omega (arith, first, c.places-test.false)))))
