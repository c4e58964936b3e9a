-- `shape_check::check_drawing` meets its contract. Assumes nothing.
use borrow.Author.Rules.{rules}
use lib.ListN.{take}
use Rattle.shape_check.proofs.Order.{angle_test, told_3, told_4, told_1, told_2, told_none}
use Rattle.shape_check.proofs.check_drawing.Goals as goal

pub returns-then-many : goal.returns-then-many
returns-then-many c =
    let d = c.args.d.now in
    told_3
    d.shape d.list.now d.own d.default d.options d.operations.ops d.operations.count d.operations.degrees
    c.too_many_segments-many.ensures
    c.if-many.true

pub returns-then-bad : goal.returns-then-bad
returns-then-bad c =
    let d = c.args.d.now in
    told_4
    d.shape d.list.now d.own d.default d.options d.operations.ops d.operations.count d.operations.degrees
    c.too_many_segments-many.ensures
    c.if-many.false
    c.bad_lists-bad.ensures
    c.if-bad.true

pub returns-then-numbers_bad : goal.returns-then-numbers_bad
returns-then-numbers_bad c =
    let d = c.args.d.now in
    told_1
    d.shape d.list.now d.own d.default d.options d.operations.ops d.operations.count d.operations.degrees
    c.too_many_segments-many.ensures
    c.if-many.false
    c.bad_lists-bad.ensures
    c.if-bad.false
    c.numbers_bad.ensures
    c.if-numbers_bad.true

pub returns-then-angles_bad : goal.returns-then-angles_bad
returns-then-angles_bad c =
    let d = c.args.d.now in
    let two = angle_test d.shape d.list.now d.own d.default d.operations.degrees (take d.operations.count d.operations.ops)
    c.shape_cs.ensures c.is_cylindrical-cylindrical.ensures c.angles_bad.ensures in
    told_2
    d.shape d.list.now d.own d.default d.options d.operations.ops d.operations.count d.operations.degrees
    c.too_many_segments-many.ensures
    c.if-many.false
    c.bad_lists-bad.ensures
    c.if-bad.false
    c.numbers_bad.ensures
    c.if-numbers_bad.false
    two
    c.if-angles_bad.true

pub returns : goal.returns
returns c =
    let d = c.args.d.now in
    let two = angle_test d.shape d.list.now d.own d.default d.operations.degrees (take d.operations.count d.operations.ops)
    c.shape_cs.ensures c.is_cylindrical-cylindrical.ensures c.angles_bad.ensures in
    told_none
    d.shape d.list.now d.own d.default d.options d.operations.ops d.operations.count d.operations.degrees
    c.too_many_segments-many.ensures
    c.if-many.false
    c.bad_lists-bad.ensures
    c.if-bad.false
    c.numbers_bad.ensures
    c.if-numbers_bad.false
    two
    c.if-angles_bad.false
