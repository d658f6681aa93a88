use Rattle.std.proofs.Common.{string_bytes}
use Rattle.replies.specs.Serving.{zone_state, floor_in}
use Rattle.replies.proofs.Steps.{serve-more}
use Rattle.replies.proofs.serving.serve_lines.Goals as goal

pub loop-line-preserved : goal.loop-line-preserved
loop-line-preserved g c =
    let state = zone_state g.B.Bank.limit g.B.Bank.cells in
    let s = c.loop-line.store in
    let t = c.serve_line-reply.new.store in
    serve-more (floor_in s) (floor_in t) (state s) (state t) c.args.lines.now c.loop-line.line-index _ c.serve_line-reply.result
    (string_bytes c.loop-line.text) (string_bytes c.push_reply.new.text) _ c.loop-line-test.true
    c.serve_line-reply.ensures.state c.serve_line-reply.ensures.reply c.serve_line-reply.ensures.floor c.in_ok-push_reply.ensures c.loop-line.invariant
