use Rattle.std.proofs.{Common.refl, lemmas.Result.IfOk-weaker}
use Rattle.hall_file.proofs.hall_options.options.with_desks.Goals as goal

pub returns : goal.returns
returns c =
    IfOk-weaker c.arg-4.result _ _ (λ r adds. record {
      config = c.in_ok-config_option.field-0;
      hall = c.in_ok-hall_option.field-0;
      to = c.in_ok-to_option.field-0;
      key = c.key_option.result;
      is_config = c.in_ok-config_option.ensures;
      is_hall = c.in_ok-hall_option.ensures;
      is_to = c.in_ok-to_option.ensures;
      is_key = c.key_option.ensures;
      added = (
        c.in_ok-command.command,
        c.in_ok-command.ensures,
        (
          c.in_ok-command-2.command,
          c.in_ok-command-2.ensures,
          (c.in_ok-command-3.command, c.in_ok-command-3.ensures, (r, adds, refl)),
        ),
      );
    }) c.arg-4.ensures
