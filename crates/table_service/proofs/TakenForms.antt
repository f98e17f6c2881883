-- What a score table does with a command, value by value.
use Rattle.std.proofs.Common.{ℕ, ◌≡◌, [], ◌∷◌, List, Option, None, Some, ap, arith, codes, inl, inr}
use Rattle.std.proofs.Common.{false, length, map, refl, subst, sym, true}
use lib.Utf8.{encode}
use denote.RawPtr.{null_ptr}
use Rattle.std.specs.{Global.Global, Global.Vec, List.range_with_len, Fmt.digits}
use Rattle.std.specs.Str.{chars, is_utf8, Lossy.utf8_lossy, Lossy.utf8_valid_len}
use Rattle.acceptor.specs.declared.entry.Entry.{Entry}
use Rattle.card_forms.specs.{declared.pairs.Pair.Pair, Asking.IsCommandText}
use Rattle.form_urlencoded.specs.Form.{raw_pairs, split}
use Rattle.percent_encoding.specs.Percent.{percent_decode}
use Rattle.http.specs.declared.{request.Request.Request, version.TheConstants.Version.HTTP_11}
use Rattle.http1.specs.Fields.{Header}
use Rattle.http_header.specs.FieldValue.{FieldValue, plain_value}
use Rattle.http_server.specs.declared.response.Response.{Response}
use Rattle.kept_mirror.specs.Mirrorings.{new_mirroring}
use Rattle.outbox.specs.{Items.no_items, Items.queued, Worked.seven}
use Rattle.outbox.specs.Outboxes.{OutboxOf, aimed, new_outbox, with_list}
use Rattle.outbox.specs.WorkedRuns.{file_of_five, five, five_since, new_file}
use Rattle.table_views.specs.declared.{around.PageContext.PageContext, desks.HallStatus.HallStatus}
use Rattle.scorecard.specs.Spelling.{trimmed}
use Rattle.texts.specs.Fields.{cut, number_between}
use Rattle.texts.specs.{Names.is_clear_name, Table.rows, declared.command.Command.TheVariants.Close}
use Rattle.table_service.specs.{declared.plan.RequestPlan.RequestPlan, Gate.has_token, Steps.Aims}
use Rattle.table_service.specs.{Disks.disk, Disks.journal, Runs.IsReached, Runs.TurnsLead}
use Rattle.table_service.specs.{Laws.AsksForOne, Laws.IsTaken, Services.service, Sent.PlansPosted}
use Rattle.table_service.specs.{Openings.IsOver, Requests.sent_pairs, Replying.refuses}
use Rattle.table_service.specs.Replies.{fields_with, kind, line_of, text_kind}
use Rattle.table_service.specs.Services.{Answers, KeepsList, PlansAround, ServiceOf, TakesAll}
use Rattle.table_service.specs.WorkedTaking.{WorksTaking, turns}
use Rattle.formats.specs.declared.events.Event.TheVariants as event
use Rattle.outbox.specs.declared.item.QueueOutcome.TheVariants as taken
use Rattle.table_service.specs.declared.plan.Effect.TheVariants as effect
use Rattle.table_service.specs.declared.plan.Problem.TheVariants as problem
use Rattle.table_service.specs.declared.plan.PageReply.TheVariants as reply

global : Global
global = record { memory = record { seal = tt } }

abbrev no_lengths : Vec (Option ℕ)
no_lengths = record {
  ptr = null_ptr;
  len = 0;
  cap = 0;
  alloc = global;
  items = [];
  ok = (refl, omega arith);
  small = omega arith;
}

abbrev nobody : Vec ℕ
nobody = record {
  ptr = null_ptr;
  len = 0;
  cap = 0;
  alloc = global;
  items = [];
  ok = (refl, omega arith);
  small = omega arith;
}

abbrev desks : HallStatus
desks = record {
  followed = 1;
  silent = None;
  undecided = None;
  refused = None;
  lengths = no_lengths;
  away = nobody;
  trouble = None;
  of_other_hall = None;
  differs = None;
}

abbrev set : List ℕ
set = range_with_len 100 32

abbrev table : OutboxOf → List ℕ → ServiceOf
table outbox lines =
    service (codes "Open") (codes "A") (codes "a:1" ∷ []) (codes "9f") [] (new_mirroring 7 2) None
    desks outbox (set ∷ []) 3 None
    (journal (Some (disk lines (length lines) 0)) (length lines) false)

abbrev new : OutboxOf
new = new_outbox 7 1 no_items

abbrev before : ServiceOf
before = table new new_file

abbrev kept : OutboxOf
kept = with_list new (five_since 3)

abbrev after : ServiceOf
after = table kept file_of_five

abbrev aimed_away : ServiceOf
aimed_away = table (aimed kept 2) file_of_five

abbrev last : ServiceOf
last = table (new_outbox 7 2 (five_since 8)) file_of_five

-- ---- the request, and what is answered

abbrev request_of : List ℕ → Request (List ℕ)
request_of host = record {
  head = record {
    method = codes "POST";
    uri = record {
      scheme = None;
      authority = None;
      path_and_query = codes "/command";
      absolute = λ x is. cc;
      authority_alone = λ none x is. cc;
    };
    version = HTTP_11;
    headers = (codes "host", plain_value host ∷ []) ∷ [];
  };
  body = codes "token=9f&id=5&text=CLOSE+333+1";
}

abbrev request : Request (List ℕ)
request = request_of (codes "a:1")

abbrev foreign : Request (List ℕ)
foreign = request_of (codes "b:1")

abbrev five_fields : List Header → List (List ℕ × FieldValue)
five_fields sent = map (λ h. (h.0, plain_value h.1)) sent

abbrev headers_of : Header → Vec (List ℕ × FieldValue)
headers_of field = record {
  ptr = null_ptr;
  len = 5;
  cap = 5;
  alloc = global;
  items = five_fields (fields_with field);
  ok = (refl, omega arith);
  small = omega arith;
}

abbrev response : Response
response = record {
  status = 303;
  headers = headers_of (codes "location", codes "/?sent=5");
  body = record { items = []; spare = 0 };
}

abbrev refusal : Response
refusal = record {
  status = 403;
  headers = headers_of (kind text_kind);
  body = record { items = line_of problem.Foreign; spare = 0 };
}

abbrev place : Vec ℕ
place = record {
  ptr = null_ptr;
  len = 8;
  cap = 8;
  alloc = global;
  items = codes "/?sent=5";
  ok = (refl, omega arith);
  small = omega arith;
}

abbrev entries : Vec Entry
entries = record {
  ptr = null_ptr;
  len = 1;
  cap = 1;
  alloc = global;
  items = five ∷ [];
  ok = (refl, omega arith);
  small = omega arith;
}

abbrev plan : RequestPlan
plan = record { reply = reply.SeeOther place; effect = effect.Take entries }

-- ---- the answer

abbrev around : PageContext
around = record {
  mirror = record { ref_ptr = (0, 0); now = [] };
  desks = record { ref_ptr = (0, 0); now = desks };
  proposals = record { ref_ptr = (0, 0); now = [] };
  token = record { ref_ptr = (0, 0); now = codes "9f" };
  ids = record { ref_ptr = (0, 0); now = set };
  remark = record { ref_ptr = (0, 0); now = codes "A" };
  recent = record { ref_ptr = (0, 0); now = [] };
  now = 3;
  waits = false;
}

-- the pairs of its form
abbrev pairs : List Pair
pairs =
    record { name = codes "token"; value = codes "9f" }
    ∷ record { name = codes "id"; value = codes "5" }
    ∷ record { name = codes "text"; value = codes "CLOSE 333 1" } ∷ []

are_pairs : sent_pairs request ≡ pairs
unfolding chars encode is_utf8 percent_decode raw_pairs split utf8_lossy utf8_valid_len
are_pairs = refl

fits : IsCommandText (codes "CLOSE 333 1")
unfolding digits rows
fits = (
  record { command = Close (record { event = event.Cube3; round = 1 }); remark = None },
  (((tt, ((omega arith, omega arith), tt)), tt), tt, omega arith),
  refl,
)

asks_pairs : AsksForOne pairs [] (five ∷ [])
unfolding cut digits is_clear_name number_between rows trimmed
asks_pairs = record {
  id = 5;
  named = refl;
  text = codes "CLOSE 333 1";
  fit = fits;
  asks = refl;
  are = refl;
}

asks : AsksForOne (sent_pairs request) [] (five ∷ [])
asks = subst (λ (p : List Pair). AsksForOne p [] (five ∷ [])) (sym are_pairs) asks_pairs

posted : PlansPosted around None no_items (codes "/command") pairs true plan
unfolding cut digits is_clear_name number_between rows trimmed
posted =
    inr (inr (record {
      id = 5;
      text = codes "CLOSE 333 1";
      named = refl;
      fit = fits;
      asks = refl;
      plans = record { goes = refl; takes = refl };
    }))

plans : PlansAround before set request plan
unfolding cut digits number_between raw_pairs split
plans = record {
  around = around;
  is = record {
    mirror = refl;
    desks = refl;
    proposals = refl;
    token = refl;
    ids = refl;
    remark = refl;
    recent = record { items = refl; by = tt };
    time = refl;
    waits = refl;
  };
  plans =
      subst (λ (p : List Pair).
      PlansPosted around None no_items (codes "/command") p (has_token (codes "9f") p) plan)
      (sym are_pairs) posted;
}

takes : TakesAll no_items (five ∷ []) 3 (queued no_items five 3)
takes = (
  queued no_items five 3,
  record {
    fit = ((omega arith, omega arith), omega arith);
    came = taken.New;
    takes = (refl, refl, refl);
    is = refl;
  },
  refl,
)

keeps : KeepsList true (queued no_items five 3) before after
unfolding digits
keeps = (
  after.file,
  record {
    told = refl;
    synced = omega arith;
    whole = λ is. refl;
    failed = λ is. cc;
    broken = λ is. cc;
  },
  refl,
)

answers : Answers before request response after
answers = record {
  plan = plan;
  planned = plans;
  does = inr (
    queued no_items five 3,
    takes,
    keeps,
    inl (record { status = refl; headers = refl; body = refl }),
  );
}

is_taken : IsTaken before request response after
unfolding cut digits is_clear_name number_between rows trimmed
is_taken = record {
  entries = five ∷ [];
  list = queued no_items five 3;
  form = record {
    own = refl;
    method = refl;
    token = ap (λ (p : List Pair). has_token (codes "9f") p) are_pairs;
  };
  asked = inr (inl (refl, asks));
  taken = takes;
  items = refl;
  sent = (refl, tt);
  synced = omega arith;
  told = refl;
}

-- ---- the turns

begins : IsOver seven 1 0 new_file before.outbox before.file
unfolding cut digits number_between
begins = record {
  lines = new_file;
  there = refl;
  synced = omega arith;
  started = record {
    list = no_items;
    reads = refl;
    fresh = refl;
    whole = record { lines = refl; ends = refl };
  };
}

reached : IsReached seven before
reached = record {
  desk = 1;
  now = 0;
  bytes = new_file;
  first = before;
  begun = begins;
  turns = [];
  lead = refl;
}

leads : TurnsLead seven after turns last
unfolding cut digits number_between
leads = (
  aimed_away,
  record { calls = Aims 2 ∷ []; lead = (aimed_away, refl, refl) },
  (
    last,
    record {
      lines = file_of_five;
      there = refl;
      synced = omega arith;
      started = record {
        list = five_since 8;
        reads = refl;
        fresh = refl;
        whole = record { lines = refl; ends = refl };
      };
    },
    refl,
  ),
)

pub works_taking : WorksTaking
unfolding is_taken
works_taking = record {
  before = before;
  after = after;
  last = last;
  reached = reached;
  rests = (refl, refl);
  request = request;
  sent = refl;
  response = response;
  answers = answers;
  taken = is_taken;
  takes = refl;
  kept = (refl, refl);
  lead = leads;
  foreign = foreign;
  other = refl;
  refusal = refusal;
  refused = record {
    plan = refuses problem.Foreign;
    planned = refl;
    does = (refl, record { status = refl; headers = refl; body = refl });
  };
}
