use mathlib.Core.Path.{◌≡◌, refl, sym, subst}
use mathlib.Core.Logic.{⊎_elim}
use Prim.Native.Nat.{ℕ, ◌+◌, ◌*◌, ◌^◌, ◌<◌}
use native.Mathlib.Omega.{arith}
use native.Mathlib.Nat.{zero-mul, add-mul}
use lib.Pow.{pow-add}
use borrow.Author.Rules.{rules}
use Rattle.number.proofs.RootDigitsSteps.{cap, one_at, pick, again, answered, here, room}
use Rattle.number.proofs.root_digits.Goals as goal

pub overflow_add-y : goal.overflow_add-y
overflow_add-y c = omega (arith, cap c.args.p (search rules))

pub loop-w-init : goal.loop-w-init
loop-w-init c =
    let m = c.args.m in
    let p = c.args.p in
    let u = 2 ^ (p + 1) in
    let e : (m + m) * u ≡ m * u + m * u = add-mul m m u in
    let f = one_at p (search rules) in
    let d : u ≡ 2 ^ p * 2 = pow-add 2 p 1 in
    record {
      i = p + 1;
      reached = omega arith;
      weight = omega arith;
      left = record { exact = omega arith; small = omega arith; room = omega arith };
      even = refl;
      many = 0;
      whole = sym (zero-mul u);
    }

pub overflow_add-t : goal.overflow_add-t
overflow_add-t c = let b = room c.args.m c.args.p c.args.j c.loop-w.r c.loop-w.y c.loop-w.w (search rules) (search rules) c.loop-w.invariant c.loop-w-test.true in omega arith

pub overflow_add-y-in-loop-w : goal.overflow_add-y-in-loop-w
overflow_add-y-in-loop-w c = let b = room c.args.m c.args.p c.args.j c.loop-w.r c.loop-w.y c.loop-w.w (search rules) (search rules) c.loop-w.invariant c.loop-w-test.true in omega arith

pub overflow_add-t-in-loop-w : goal.overflow_add-t-in-loop-w
overflow_add-t-in-loop-w c = let b = room c.args.m c.args.p c.args.j c.loop-w.r c.loop-w.y c.loop-w.w (search rules) (search rules) c.loop-w.invariant c.loop-w-test.true in omega arith

pub overflow_sub-y : goal.overflow_sub-y
overflow_sub-y c =
    let l = c.loop-w in
    let t = l.r + l.w in
    ⊎_elim (λ z. omega arith) (λ z. omega arith) (pick l.y t 0 (t + t) c.select.result c.select.ensures)

pub overflow_add-t-in-loop-w-2 : goal.overflow_add-t-in-loop-w-2
overflow_add-t-in-loop-w-2 c = let b = room c.args.m c.args.p c.args.j c.loop-w.r c.loop-w.y c.loop-w.w (search rules) (search rules) c.loop-w.invariant c.loop-w-test.true in omega arith

pub loop-w-smaller : goal.loop-w-smaller
loop-w-smaller c = let b = room c.args.m c.args.p c.args.j c.loop-w.r c.loop-w.y c.loop-w.w (search rules) (search rules) c.loop-w.invariant c.loop-w-test.true in omega arith

pub loop-w-preserved : goal.loop-w-preserved
loop-w-preserved c =
    let l = c.loop-w in
    let t = l.r + l.w in
    again _ _ _ l.r l.y l.w c.select.result c.select-r.result (here c.args.m c.args.p c.args.j c.loop-w.r c.loop-w.y c.loop-w.w (search rules) (search rules) c.loop-w.invariant c.loop-w-test.true) (pick l.y t 0 (t + t) c.select.result c.select.ensures)
    (pick l.y t l.r (t + l.w) c.select-r.result c.select-r.ensures)

pub returns : goal.returns
returns c =
    let a = c.args in
    let l = c.loop-w in
    let d = answered (a.m * 2 ^ (a.p + 1)) (2 ^ (a.p + 1)) a.j l.r l.y l.w l.invariant (subst (λ (x : ℕ). l.w < x) (one_at a.j (search rules)) c.loop-w-test.false) in
    record { root_value = d.root; rest_value = d.exact; rest_bound = d.small }
