use Rattle.std.proofs.Common.{◌-◌, ◌<◌, length, sym, ◌∙◌, arith}
use Rattle.std.proofs.lemmas.List.{get_or_read}
use Rattle.transport.proofs.Blocks.{extended_sound, extended_kept, extended_added, extended_weights}
use Rattle.transport.proofs.arcs.extend_last.Goals as goal

pub returns-clause-sound : goal.returns-clause-sound
returns-clause-sound c = λ on.
    let lt : length c.args.blocks.now - 1 < length c.args.blocks.now = omega (arith, c.if-blocks-eq0.false) in
    let last = get_or_read c.args.blocks.now (length c.args.blocks.now - 1) c.index-blocks-last.result lt c.index-blocks-last.is in
    let weights = c.extend.ensures.weight on in
    extended_sound _ _ _ c.extend.new.block c.args.cpu c.args.weight lt (λ d. sym (last d) ∙ last c.index-blocks-last.result) weights.0 weights.1 (c.extend.ensures.firsts on)

pub returns-clause-kept : goal.returns-clause-kept
returns-clause-kept c = λ on.
    let lt : length c.args.blocks.now - 1 < length c.args.blocks.now = omega (arith, c.if-blocks-eq0.false) in
    let last = get_or_read c.args.blocks.now (length c.args.blocks.now - 1) c.index-blocks-last.result lt c.index-blocks-last.is in
    let weights = c.extend.ensures.weight on in
    extended_kept _ _ _ c.extend.new.block c.args.cpu c.args.weight lt (λ d. sym (last d) ∙ last c.index-blocks-last.result) weights.0 weights.1 (c.extend.ensures.firsts on)

pub returns-clause-added : goal.returns-clause-added
returns-clause-added c = λ on.
    let lt : length c.args.blocks.now - 1 < length c.args.blocks.now = omega (arith, c.if-blocks-eq0.false) in
    let last = get_or_read c.args.blocks.now (length c.args.blocks.now - 1) c.index-blocks-last.result lt c.index-blocks-last.is in
    let weights = c.extend.ensures.weight on in
    extended_added _ _ _ c.extend.new.block c.args.cpu c.args.weight lt (λ d. sym (last d) ∙ last c.index-blocks-last.result) weights.0 weights.1 (c.extend.ensures.firsts on)

pub returns-clause-weights : goal.returns-clause-weights
returns-clause-weights c = λ on.
    let lt : length c.args.blocks.now - 1 < length c.args.blocks.now = omega (arith, c.if-blocks-eq0.false) in
    let last = get_or_read c.args.blocks.now (length c.args.blocks.now - 1) c.index-blocks-last.result lt c.index-blocks-last.is in
    let weights = c.extend.ensures.weight on in
    extended_weights _ _ _ c.extend.new.block c.args.cpu c.args.weight lt (λ d. sym (last d) ∙ last c.index-blocks-last.result) weights.0 weights.1 (c.extend.ensures.firsts on)
