use Rattle.sheets.proofs.as_text.text_of.Goals as goal

pub push_lines-requires : goal.push_lines-requires
push_lines-requires c =
    c.in_ok-going_on.ensures (c.args.shown.settings, c.args.shown.table.now) c.requires
