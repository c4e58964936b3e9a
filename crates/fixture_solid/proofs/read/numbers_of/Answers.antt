-- `fixture_solid::read::numbers_of` meets its contract. Assumes nothing.
use Rattle.fixture_solid.proofs.Lists.{starts, taken, room, numbers_are}
use Rattle.fixture_solid.proofs.read.numbers_of.Goals as goal

pub slice_bounds-get_floats-count : goal.slice_bounds-get_floats-count
slice_bounds-get_floats-count c =
    let s = c in
    starts s.args.l s.args.p.now s.requires c.from-from.result c.from-n.result c.from-from.ensures c.from-n.ensures

pub slice_bounds-get_floats-start : goal.slice_bounds-get_floats-start
slice_bounds-get_floats-start c =
    let s = c in
    starts s.args.l s.args.p.now s.requires c.from-from.result c.from-n.result c.from-from.ensures c.from-n.ensures

pub slice_bounds-get_floats-end-2 : goal.slice_bounds-get_floats-end-2
slice_bounds-get_floats-end-2 c =
    let w = c in
    let s = w in
    taken s.args.l s.args.p.now s.requires w.from-from.result w.from-n.result w.from-from.ensures w.from-n.ensures

pub get_floats-requires : goal.get_floats-requires
get_floats-requires c =
    let w = c in
    let s = w in
    room s.args.l s.args.p.now s.requires w.from-from.result w.from-n.result w.from-from.ensures w.from-n.ensures

pub returns : goal.returns
returns c =
    let w = c in
    let s = w in
    numbers_are s.args.l s.args.p.now s.requires w.from-from.result w.from-n.result w.from-from.ensures w.from-n.ensures
    c.get_floats.new.out c.get_floats.ensures
