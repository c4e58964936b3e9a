-- `outline_triangle::tolerance` meets its contract. Assumes nothing.
use Rattle.std.proofs.Common.{◌≡◌, Float, sym, ap, ◌∙◌, rules, fold}
use lib.Ieee.{binary64, of_bits, mul}
use Rattle.ieee.specs.Number.{maximum, absolute}
use Rattle.outline_triangle.specs.Triangle.{largest, scale, tolerance}
use Rattle.outline_triangle.proofs.Laws.{largest_is}
use Rattle.outline_triangle.proofs.tolerance.Goals as goal

pub returns : goal.returns
unfolding tolerance scale
returns c =
    let f : c.fold-m.result ≡ fold (λ m x. maximum m (absolute x)) (of_bits binary64 0) c.args.v.now = search rules in
    let e : c.max-scale.result ≡ maximum (largest (of_bits binary64 0) c.args.v.now) (of_bits binary64 0x01a5_6e1f_c2f8_f359) =
    c.max-scale.ensures ∙ ap (λ (m : Float). maximum m (of_bits binary64 0x01a5_6e1f_c2f8_f359)) (f ∙ sym (largest_is (of_bits binary64 0) c.args.v.now)) in
    ap (λ (s : Float). mul binary64 (mul binary64 (of_bits binary64 0x3d71_9799_812d_ea11) s) s) e
