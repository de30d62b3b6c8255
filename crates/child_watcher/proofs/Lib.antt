mod Settings
