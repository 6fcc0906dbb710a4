-- Four bytes as one number, or three.
use native.Mathlib.Omega.{arith}
use Rattle.stream.proofs.Streams.{window_made, window_less, window_three}
use Rattle.stream.proofs.window_at.Goals as goal

pub returns-then-a-stream : goal.returns-then-a-stream
returns-then-a-stream c =
    let y = c.args.stream.now in
    window_less 4 3 y c.args.a _ (omega arith)
    (window_made 4 y c.args.a _ (λ i. let byte = c.type_inv.stream i in omega arith) c.if-a-stream.true c.four_at.ensures.0)

pub returns : goal.returns
returns c =
    window_three c.args.stream.now c.args.a _ (λ i. let byte = c.type_inv.stream i in omega arith)
    (omega (arith, c.byte_or_zero.ensures.0, c.byte_or_zero-2.ensures.0, c.byte_or_zero-3.ensures.0, c.raised.ensures, c.raised-2.ensures))
